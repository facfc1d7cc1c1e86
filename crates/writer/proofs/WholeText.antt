-- The text of a job, by a version, in the parts that calls write: both routes, then the job part. Assumes nothing.
use mathlib.Core.Path.{◌≡◌, sym, ap, ◌∙◌}
use mathlib.Core.List.{List, [], ◌∷◌, ◌++◌, append-nil}
use Prim.Native.Nat.{ℕ}
use Rattle.emit.proofs.Chains.{parts, First, Second, Third, Three, first-room, second-room, third-room, three-emits}
use Rattle.route.specs.declared.Places.{Places}
use Rattle.route.specs.declared.Step.{Step}
use Rattle.version.specs.declared.Version.{Version}
use Rattle.job.specs.Job.{Job}
use Rattle.layout.specs.Text.{job_text, text}
use Rattle.layout.specs.declared.Word.TheVariants as W
use Rattle.facts.specs.LinesOf.{lines_of}
use Rattle.sheet_lines.specs.inner.Parts.{route_text}
use Rattle.sheet_lines.proofs.TextsInFront.{route-front}
use Rattle.writer.specs.Written.{written_by}

module _ (v : Version) (old_places : Places) (old : List Step) (new_places : Places) (new : List Step)
    (done : List ℕ) where
  abbrev job : Job
  job = record { old_places = old_places; old = old; new_places = new_places; new = new; done = done }

  abbrev old_text : List ℕ
  old_text = route_text v W.Old old_places old []

  abbrev new_text : List ℕ
  new_text = route_text v W.New new_places new []

  text-parts : written_by v job ≡ parts (old_text ∷ new_text ∷ job_text done ∷ [])
  unfolding written_by lines_of text parts
  text-parts =
      route-front v W.Old old_places old (route_text v W.New new_places new (job_text done))
      ∙ ap (λ (t : List ℕ). old_text ++ t) (route-front v W.New new_places new (job_text done)
      ∙ ap (λ (t : List ℕ). new_text ++ t) (sym (append-nil (job_text done))))

  pub text-first : First (written_by v job) old_text
  text-first = first-room _ _ _ text-parts

  pub text-second : Second (written_by v job) old_text new_text
  text-second = second-room _ _ _ _ text-parts

  pub text-third : Third (written_by v job) old_text new_text (job_text done)
  text-third = third-room _ _ _ _ _ text-parts

  pub text-whole : Three (written_by v job) old_text new_text (job_text done)
  text-whole = three-emits _ _ _ _ text-parts
