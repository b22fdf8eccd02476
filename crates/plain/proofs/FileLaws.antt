-- Lines of files, and loops over them.
use Rattle.std.proofs.Common.{◌≡◌, ℕ, suc, ◌+◌, ◌<◌, ◌==◌, false, cond, List, [], ◌∷◌, ◌++◌, append_assoc, length, drop, get_or, map, take, Option, refl, sym, ◌∙◌, ap, arith, inl, inr}
use Rattle.std.specs.Prelude.{◌-◌, Bool, true, min, nat_lt}
use Rattle.std.specs.Borrow.{Bor}
use Rattle.std.specs.List.{cons_option, filter_map, flat_map}
use Rattle.std.specs.Result.{result_ok}
use Rattle.std.proofs.lemmas.Bool.{cases_Bool}
use Rattle.std.proofs.lemmas.Grind.{flat_map-append}
use Rattle.std.proofs.lemmas.List.{append-nil, drop-map, drop_min, length-map, map_more, take-map, take_all, take_min}
use Rattle.std.proofs.lemmas.List.Elements.{filter_map-append}
use Rattle.algebra.specs.declared.domain.Domain.{Domain}
use Rattle.model.specs.declared.entry.Entry.{Entry}
use Rattle.model.specs.declared.market.Heading.{Heading}
use Rattle.model.specs.declared.market.Mistake.TheVariants as mistake
use Rattle.model.specs.Grammar.{without_empty_last, words_of}
use Rattle.model.specs.MatrixMarket.{Line, ToldLine, entries_said, entry_said, faults_of, is_told, misread, told_lines, with_mirror}
use Rattle.plain.specs.declared.lines.PlainLine.{PlainLine}
use Rattle.plain.specs.Files.{fault_in, line_of, lines_in, texts_in, words_in}

-- ---- the last part of a text

-- a part in front of what is chosen
chosen_behind : (test : Bool) (part : List ℕ) (x y : List (List ℕ)) → part ∷ cond test x y ≡ cond test (part ∷ x) (part ∷ y)
chosen_behind true part x y = refl
chosen_behind false part x y = refl

pub without_empty_last-last : (front : List (Bor (List ℕ))) (last : Bor (List ℕ))
    → without_empty_last (texts_in (front ++ last ∷ []))
    ≡ cond (length last.now == 0) (texts_in front) (texts_in (front ++ last ∷ []))
without_empty_last-last [] last = refl
without_empty_last-last (part ∷ []) last = chosen_behind (length last.now == 0) part.now [] (last.now ∷ [])
without_empty_last-last (part ∷ next ∷ front) last =
    ap (λ (rest : List (List ℕ)). part.now ∷ rest) (without_empty_last-last (next ∷ front) last)
    ∙ chosen_behind (length last.now == 0) part.now (texts_in (next ∷ front)) (texts_in (next ∷ front ++ last ∷ []))

-- ---- lines

pub filter_map-map : {X Y Z : Type 0} (f : Y → Option Z) (see : X → Y) (xs : List X)
    → filter_map f (map see xs) ≡ filter_map (λ x. f (see x)) xs
filter_map-map f see [] = refl
filter_map-map f see (x ∷ xs) = ap (cons_option (f (see x))) (filter_map-map f see xs)

-- one line more
pub entries_said-more : (domain : Domain) (h : Heading) (lines : List PlainLine) (i : ℕ) (line : PlainLine)
    → i < length lines → line ≡ get_or lines i line
    → entries_said domain h (map words_in (take (i + 1) lines))
    ≡ entries_said domain h (map words_in (take i lines)) ++ flat_map (with_mirror h.symmetry) (cons_option (result_ok (entry_said domain h (words_in line))) [])
entries_said-more domain h lines i line inside here =
    let said : Line → Option Entry = λ line. result_ok (entry_said domain h line) in
    ap (entries_said domain h) (map_more words_in lines i line inside ∙ ap (λ (line : PlainLine). map words_in (take i lines) ++ words_in line ∷ []) (sym here))
    ∙ ap (flat_map (with_mirror h.symmetry)) (filter_map-append said (map words_in (take i lines)) (words_in line ∷ []))
    ∙ flat_map-append (with_mirror h.symmetry) _ _

-- the words of lines, with their places and without
pub words_of_lines : (lines : List PlainLine) → map (λ (line : ToldLine). line.words)
    (lines_in lines) ≡ map words_in lines
words_of_lines [] = refl
words_of_lines (line ∷ lines) = ap (λ (rest : List Line). words_in line ∷ rest) (words_of_lines lines)

-- ---- lines that say something

-- the first of the lines that are left, behind others
pub told_lines-next : (told all : List ToldLine) (left : List (Bor (List ℕ))) (d : Bor (List ℕ)) → 0 < length left
    → told ++ told_lines (map words_of (texts_in left)) ≡ all
    → (let words = words_of (get_or left 0 d).now in
    told ++ cond (is_told words) (record { left = length left; words = words } ∷ []) [])
    ++ told_lines (map words_of (texts_in (take (length left - 1) (drop 1 left)))) ≡ all
unfolding told_lines
told_lines-next told all [] d some so_far = absurd (omega arith)
told_lines-next told all (line ∷ left) d some so_far =
    let words = words_of line.now in
    let behind = map words_of (texts_in left) in
    let whole : take (length (line ∷ left) - 1) left ≡ left = take_all (length (line ∷ left) - 1) left (omega arith) in
    let count : length behind ≡ length left = length-map (texts_in left) words_of ∙ length-map left (λ (text : Bor (List ℕ)). text.now) in
    rw whole (elim (cases_Bool (is_told words)) [
      | inl says ↦ rw (says, ← count) (append_assoc told (record { left = suc (length behind); words = words } ∷ []) (told_lines behind) ∙ (rw says at so_far))
      | inr silent ↦ rw (silent, append-nil told) (rw silent at so_far)
    ])

pub told_lines-end : (told all : List ToldLine) (left : List (Bor (List ℕ))) → length left ≡ 0
    → told ++ told_lines (map words_of (texts_in left)) ≡ all → told ≡ all
unfolding told_lines
told_lines-end told all [] none so_far = sym (append-nil told) ∙ so_far
told_lines-end told all (line ∷ left) none so_far = absurd (omega arith)

-- ---- the announced lines

pub faults_of-announced : (domain : Domain) (h : Heading) (lines : List PlainLine) (n : ℕ)
    → n ≡ min h.entries (length lines)
    → faults_of domain h (lines_in lines)
    ≡ filter_map (fault_in domain h) (lines_in (take n lines))
    ++ map (misread mistake.TooMany) (take 1 (lines_in (drop n lines)))
    ++ cond (nat_lt (length lines) h.entries) (record { left = 0; mistake = mistake.TooFew } ∷ []) []
unfolding faults_of
faults_of-announced domain h lines n is =
    rw (is, take_min h.entries lines, drop_min h.entries lines, ← take-map line_of h.entries lines, ← drop-map line_of h.entries lines, length-map lines line_of) refl
