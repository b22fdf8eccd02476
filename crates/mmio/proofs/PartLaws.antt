-- What the lines of a text say, by its parts.
use Rattle.std.proofs.Common.{◌≡◌, ℕ, ◌+◌, ◌<◌, ◌==◌, Bool, true, List, [], ◌∷◌, ◌++◌, length, map, filter, take, drop, get_or, refl, ap, sym, ◌∙◌, inl, inr, arith, append_assoc, subst}
use Rattle.std.specs.List.{All, onto_first, slice_split}
use Rattle.std.specs.Str.Lines.{strip_carriage_return}
use Rattle.std.proofs.lemmas.Bool.{cases_Bool}
use Rattle.std.proofs.lemmas.List.{append-nil, length-append, map-append, take-append-drop, take_more}
use Rattle.std.proofs.lemmas.List.Elements.{All-append, filter-append}
use Rattle.std.proofs.lemmas.List.Splits.{length-slice_split}
use Rattle.algebra.specs.declared.domain.Domain.{Domain}
use Rattle.model.specs.declared.entry.Entry.{Entry}
use Rattle.model.specs.declared.market.Heading.{Heading}
use Rattle.model.specs.Grammar.{lines_of, without_empty_last, words_of}
use Rattle.model.specs.MatrixMarket.{Line, is_told, told_lines}
use Rattle.mmio.specs.Listing.{Lists, SaysEntry, told_in, words_told}
use Rattle.mmio.proofs.ListingLaws.{entries_said-append}

-- ---- lines by parts

onto_first-append : (x : ℕ) (parts others : List (List ℕ)) → 0 < length parts
    → onto_first x (parts ++ others) ≡ onto_first x parts ++ others
onto_first-append x [] others some = absurd (omega (arith, some))
onto_first-append x (part ∷ parts) others some = refl

-- where an element passes, a list is cut in two, and both are split by themselves
split-append : (p : ℕ → Bool) (xs : List ℕ) (y : ℕ) (ys : List ℕ) → p y ≡ true
    → slice_split p (xs ++ y ∷ ys) ≡ slice_split p xs ++ slice_split p ys
split-append p [] y ys passes = rw passes refl
split-append p (x ∷ xs) y ys passes = elim (cases_Bool (p x)) [
  | inl here ↦ rw (here, split-append p xs y ys passes) refl
  | inr other ↦
      let some : 0 < length (slice_split p xs) = omega (arith, length-slice_split p xs) in
      rw (other, split-append p xs y ys passes, onto_first-append x (slice_split p xs) (slice_split p ys) some) refl
]

without_empty_last-append : (parts : List (List ℕ)) (next : List ℕ) (others : List (List ℕ))
    → without_empty_last (parts ++ next ∷ others) ≡ parts ++ without_empty_last (next ∷ others)
without_empty_last-append [] next others = refl
without_empty_last-append (part ∷ []) next others = refl
without_empty_last-append (part ∷ more ∷ parts) next others =
    ap (λ all. part ∷ all) (without_empty_last-append (more ∷ parts) next others)

-- the lines of a text that a line feed ends, and of what follows it
without_empty_last-split : (parts others : List (List ℕ)) → 0 < length others
    → without_empty_last (parts ++ others) ≡ parts ++ without_empty_last others
without_empty_last-split parts [] some = absurd (omega (arith, some))
without_empty_last-split parts (next ∷ others) some = without_empty_last-append parts next others

lines_of-behind : (text behind : List ℕ)
    → lines_of (text ++ 10 ∷ behind) ≡ map strip_carriage_return (slice_split (λ b. b == 10) text) ++ lines_of behind
unfolding lines_of
lines_of-behind text behind =
    let some : 0 < length (slice_split (λ b. b == 10) behind) = omega (arith, length-slice_split (λ b. b == 10) behind) in
    ap (λ parts. map strip_carriage_return (without_empty_last parts)) (split-append (λ b. b == 10) text 10 behind refl)
    ∙ ap (map strip_carriage_return) (without_empty_last-split (slice_split (λ b. b == 10) text) (slice_split (λ b. b == 10) behind) some)
    ∙ map-append strip_carriage_return (slice_split (λ b. b == 10) text) (without_empty_last (slice_split (λ b. b == 10) behind))

lines_of-nothing : lines_of [] ≡ []
unfolding lines_of
lines_of-nothing = refl

pub lines_of-parts : (text behind : List ℕ)
    → lines_of ((text ++ 10 ∷ []) ++ behind) ≡ lines_of (text ++ 10 ∷ []) ++ lines_of behind
lines_of-parts text behind =
    ap lines_of (append_assoc text (10 ∷ []) behind) ∙ lines_of-behind text behind
    ∙ ap (λ lines. lines ++ lines_of behind) (sym (lines_of-behind text [] ∙ rw lines_of-nothing (append-nil _)))

-- ---- what lines say

told_lines-words : (lines : List Line) → map (λ line. line.words) (told_lines lines) ≡ filter is_told lines
unfolding told_lines
told_lines-words [] = refl
told_lines-words (line ∷ lines) = elim (cases_Bool (is_told line)) [
  | inl told ↦ rw (told, told_lines-words lines) refl
  | inr silent ↦ rw (silent, told_lines-words lines) refl
]

words_told-lines : (text : List ℕ) → words_told text ≡ filter is_told (map words_of (lines_of text))
unfolding told_in
words_told-lines text = told_lines-words (map words_of (lines_of text))

-- the lines of a text that a line feed ends, and of what follows it, say what both say
pub words_told-parts : (text behind : List ℕ)
    → words_told ((text ++ 10 ∷ []) ++ behind) ≡ words_told (text ++ 10 ∷ []) ++ words_told behind
words_told-parts text behind =
    let front = text ++ 10 ∷ [] in
    words_told-lines (front ++ behind)
    ∙ ap (λ lines. filter is_told (map words_of lines)) (lines_of-parts text behind)
    ∙ ap (filter is_told) (map-append words_of (lines_of front) (lines_of behind))
    ∙ filter-append is_told (map words_of (lines_of front)) (map words_of (lines_of behind))
    ∙ rw (words_told-lines front, words_told-lines behind) refl

-- ..as where a text is cut behind a line feed
pub words_told-cut : (text : List ℕ) (k : ℕ) → k < length text → get_or text k 0 ≡ 10
    → words_told text ≡ words_told (take (k + 1) text) ++ words_told (drop (k + 1) text)
words_told-cut text k inside feed =
    let front : take (k + 1) text ≡ take k text ++ 10 ∷ [] = take_more text k 0 inside ∙ rw feed refl in
    ap words_told (sym (take-append-drop (k + 1) text)) ∙ rw front (words_told-parts (take k text) (drop (k + 1) text))

pub words_told-none : words_told [] ≡ []
words_told-none = words_told-lines [] ∙ rw lines_of-nothing refl

-- ---- what they list

-- two parts list what they list one behind the other
pub lists-parts : (domain : Domain) (h : Heading) (text front back : List ℕ) (entries others : List Entry)
    (lines more : ℕ) → words_told text ≡ words_told front ++ words_told back → Lists domain h front entries lines
    → Lists domain h back others more → Lists domain h text (entries ++ others) (lines + more)
lists-parts domain h text front back entries others lines more cut first second = record {
  each = subst (All (SaysEntry domain h)) (sym cut) (All-append (SaysEntry domain h) (words_told front) (words_told back) first.each second.each);
  listed = rw (first.listed, second.listed, cut) (sym (entries_said-append domain h (words_told front) (words_told back)));
  count = rw (first.count, second.count, cut) (sym (length-append (words_told front) (words_told back)));
}
