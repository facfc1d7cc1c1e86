-- `reader::reads::route_in`: the step at each place of the list.
use mathlib.Core.Path.{◌≡◌, refl, ap}
use Prim.Native.Nat.{◌<◌}
use native.Mathlib.Omega.{arith}
use borrow.Author.Rules.{rules}
use Rattle.std.proofs.lemmas.Fn.{serves_by}
use Rattle.flat.specs.Flat.{steps_in}
use Rattle.flat.proofs.FlatSteps.{length-flat}
use Rattle.reader.specs.inner.Read.{route_in}
use Rattle.reader.proofs.StepsOut.{steps-room, made}
use Rattle.reader.proofs.reads.route_in.Goals as goal

pub from_fn-requires : goal.from_fn-requires
from_fn-requires c = (
  omega arith,
  serves_by _ (λ _ q. q.0.now ≡ c.args.list.now) (λ xs q x w j r. let was = r.1.met in search rules) _ _ _ _ refl
      (λ xs t q x u y e j. let less : x < 64 = omega (arith, e.0, e.1) in
      λ κs p n a b long z. steps-room q.0.now x long less),
)

pub returns : goal.returns
returns c =
    ap (route_in c.args.places c.args.len)
    (made _ (λ f. f.0.now ≡ c.args.list.now) (steps_in c.args.list.now)
    (λ f q i s h called. let was = called.met in (search rules, search rules)) _ c.from_fn.result 64 refl
    (omega (arith, c.told-list, length-flat c.args.list.now)) c.from_fn.ensures.items)
