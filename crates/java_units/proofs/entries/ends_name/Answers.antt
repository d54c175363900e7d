use Rattle.std.proofs.Common.{◌≡◌, ◌<◌, ◌∙◌, ◌||◌, sym, List, [], ◌∷◌, length, codes, refl, true, arith, slice_index_or}
use Rattle.java_units.specs.declared.lexemes.Lexeme.{Lexeme}
use Rattle.java_units.specs.Signs.{is, sign, seen}
use Rattle.java_units.specs.Forms.{ends_name}
use Rattle.java_units.proofs.Walks.{length-some, length-none}
use Rattle.java_units.proofs.entries.ends_name.Goals as goal

ends_at : (ls : List Lexeme) (d : Lexeme) → 0 < length ls
    → ends_name (seen ls) ≡ ((is (codes "=") (sign (slice_index_or ls 0 d)) || is (codes ",") (sign (slice_index_or ls 0 d))) || is (codes ";") (sign (slice_index_or ls 0 d)))
unfolding ends_name seen
ends_at [] d l = absurd (omega arith)
ends_at (x ∷ xs) d l = refl

ends_none : (ls : List Lexeme) → ls ≡ [] → true ≡ ends_name (seen ls)
unfolding ends_name seen
ends_none [] e = refl
ends_none (x ∷ xs) e = absurd (cc)

pub returns-then-is_empty : goal.returns-then-is_empty
returns-then-is_empty c = ends_none c.args.lexemes.now (length-none c.args.lexemes.now (sym c.is_empty.ensures ∙ c.if-is_empty.true))

pub returns : goal.returns
returns c = c.may_follow.ensures ∙ sym (ends_at c.args.lexemes.now _ (length-some c.args.lexemes.now (sym c.is_empty.ensures ∙ c.if-is_empty.false)))
