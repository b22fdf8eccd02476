-- The lines of a text, by its first line feed.
use Rattle.std.proofs.Common.{◌≡◌, ℕ, ◌+◌, ◌<◌, ◌==◌, false, List, [], ◌∷◌, map, length, take, drop, Some, None, arith, refl, ◌∙◌, ap}
use Rattle.std.specs.List.{position_or_len, slice_split}
use Rattle.std.specs.Str.Lines.{strip_carriage_return}
use Rattle.std.proofs.lemmas.Bool.{false_from_ne_true}
use Rattle.std.proofs.lemmas.Grind.{get_or_default_zero}
use Rattle.std.proofs.lemmas.Bool.Decides.{nat_tests}
use Rattle.std.proofs.lemmas.List.Splits.{length-slice_split, slice_split_first, slice_split_none}
use Rattle.std.proofs.lemmas.List.Sums.{position_or_len_is}
use Rattle.memchr.specs.Find.{IsFirstByte, is_byte}
use Rattle.model.specs.Grammar.{lines_of, without_empty_last}

without_empty_last-cons : (part : List ℕ) (parts : List (List ℕ)) → 0 < length parts
    → without_empty_last (part ∷ parts) ≡ part ∷ without_empty_last parts
without_empty_last-cons part [] h = absurd (omega arith)
without_empty_last-cons part (next ∷ parts) h = refl

-- a line feed ends the first line
pub lines_of-first : (text : List ℕ) (k : ℕ) → IsFirstByte (is_byte 10) text (Some k)
    → lines_of text ≡ strip_carriage_return (take k text) ∷ lines_of (drop (k + 1) text)
unfolding lines_of
lines_of-first text k (first, passes) =
    let here : position_or_len (is_byte 10) text ≡ k = position_or_len_is (is_byte 10) text k 0 (omega (arith, first.high)) (λ i below. false_from_ne_true _ (first.before i (omega arith) below)) (λ inside. passes) in
    let parts = slice_split_first (is_byte 10) text 0 (omega (arith, here, first.high)) in
    let count = length-slice_split (is_byte 10) (drop (k + 1) text) in
    ap (λ all. map strip_carriage_return (without_empty_last all)) (rw here at parts)
    ∙ ap (map strip_carriage_return) (without_empty_last-cons (take k text) (slice_split (is_byte 10) (drop (k + 1) text)) (omega (arith, count)))

-- what has no line feed is one line
pub lines_of-last : (text : List ℕ) → IsFirstByte (is_byte 10) text None → 0 < length text
    → lines_of text ≡ strip_carriage_return text ∷ lines_of []
unfolding lines_of
lines_of-last text nowhere some =
    let whole = slice_split_none (is_byte 10) text (λ k d inside. rw (get_or_default_zero text k d inside) (false_from_ne_true _ (λ e. nowhere k (omega arith) inside e))) in
    let filled : (length text == 0) ≡ false = grind (arith, nat_tests) in
    ap (λ all. map strip_carriage_return (without_empty_last all)) whole ∙ rw filled refl
