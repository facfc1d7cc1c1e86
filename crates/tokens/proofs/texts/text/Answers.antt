-- `tokens::texts::text`: where it stands, and else byte by byte.
use Rattle.tokens.proofs.TextBytes.{text-told}
use borrow.Author.Rules.{rules}
use Rattle.tokens.proofs.texts.text.Goals as goal

pub returns-then-stands : goal.returns-then-stands
returns-then-stands c = search (rules, text-told)
