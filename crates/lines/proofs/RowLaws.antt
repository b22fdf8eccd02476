-- Rows of the grammar, by the words that they begin with.
use Rattle.std.proofs.Common.{◌≡◌, ℕ, ◌+◌, ◌-◌, ◌<◌, ◌≤◌, ◌==◌, ◌&&◌, ◌++◌, Bool, true, false, not, cond, List, [], ◌∷◌, drop, codes, length, map, nat_le, take, Option, Some, None, Result, Err, refl, sym, ◌∙◌, ap, arith, inl, inr}
use Rattle.std.specs.List.{drop-map, list_all, list_any, take-map}
use Rattle.std.specs.Option.{ok_or, option_and_then, option_map, option_map_or}
use Rattle.std.specs.Str.{bytes_eq}
use Rattle.std.proofs.lemmas.Bool.{and_parts, cases_Bool, not-true, or_parts}
use Rattle.std.proofs.lemmas.Bool.Decides.{nat_tests}
use Rattle.std.proofs.lemmas.List.{drop-take, length-drop, length-map, take_rest}
use Rattle.std.proofs.Math.Bool.{and-false}
use Rattle.std.proofs.lemmas.Slice.Eq.{bytes_eq-Decides}
use Rattle.lines.specs.declared.fault.LineFault.{LineFault}
use Rattle.lines.specs.declared.fault.LineFault.TheVariants.{Syntax, NoMemory}
use Rattle.lines.specs.Joining.{joins}
use Rattle.lines.specs.Meaning.{IsRead, bare_calls, reading_in}
use Rattle.model.specs.declared.call.Call.{Call}
use Rattle.model.specs.Grammar.{Called, Name, Row, are_as_many, call_of, calls, command_of, is_called, middle_of, nth_word, operate_of, operations, operations_of_one, operations_of_two, operations_on_regions, out_of_words, read_words, said_by}

module _ {A B : Type 0} (rows : List (Row A)) (view : B → A) (called word : List ℕ) (words : List (List ℕ)) where
  -- what is read as one word is read as a word that is the same
  pub said_as : (r : Result B LineFault) → bytes_eq called word ≡ true → IsRead view (said_by rows word words) r
      → IsRead view (said_by rows called words) r
  said_as r same is = let e : called ≡ word = (bytes_eq-Decides called word).0 same in rw e is

-- what an option holds is what a word says, and so what a word that is the same says
pub said_same : {A : Type 0} (rows : List (Row A)) (called word : List ℕ) (words : List (List ℕ)) (o : Option A)
    → bytes_eq called word ≡ true → o ≡ said_by rows word words → o ≡ said_by rows called words
said_same rows called word words o same is = let e : called ≡ word = (bytes_eq-Decides called word).0 same in rw e is

-- an option is read as it is, with a fault for none
pub read_or_syntax : {A B : Type 0} (view : B → A) (said : Option A) (o : Option B) (r : Result B LineFault)
    → r ≡ ok_or o Syntax → option_map view o ≡ said → IsRead view said r
read_or_syntax view said None r e is = rw e (sym is)
read_or_syntax view said (Some x) r e is = rw e (sym is)

-- a word of no row says nothing
pub none_said : {A : Type 0} (rows : List (Row A)) (called : List ℕ) (words : List (List ℕ))
    → list_all (λ row. not (bytes_eq called row.word)) rows ≡ true → said_by rows called words ≡ None
unfolding said_by
none_said [] called words none = refl
none_said (row ∷ rows) called words none =
    let parts = and_parts (not (bytes_eq called row.word)) (list_all (λ row. not (bytes_eq called row.word)) rows) none in
    let other : bytes_eq called row.word ≡ false = elim (cases_Bool (bytes_eq called row.word)) [
      | inl same ↦ let bad : not true ≡ true = rw same at parts.0 in absurd (cc)
      | inr other ↦ other
    ] in
    rw other (none_said rows called words parts.1)

-- nor does one of rows with more words or fewer
abbrev fits : {A : Type 0} → List ℕ → List (List ℕ) → Row A → Bool
fits called words row = bytes_eq called row.word && are_as_many row.forms (length words) 0

none_fits : {A : Type 0} (rows : List (Row A)) (called : List ℕ) (words : List (List ℕ))
    → list_all (λ row. not (fits called words row)) rows ≡ true → said_by rows called words ≡ None
unfolding said_by
none_fits [] called words none = refl
none_fits (row ∷ rows) called words none =
    let parts = and_parts (not (fits called words row)) (list_all (λ row. not (fits called words row)) rows) none in
    rw (not-true (fits called words row) parts.0) (none_fits rows called words parts.1)

-- ---- calls

-- a line's words by its first one and the others
module _ {B : Type 0} (words : List (List ℕ)) (view : B → Call Name Name) (called : List ℕ) (others : List (List ℕ))
    (first : called ≡ nth_word words 0) (rest : others ≡ drop 1 words) where
  second_or : (o : Option (Call Name Name)) (r : Result B LineFault) → IsRead view o r → IsRead view (option_map_or Some o None) r
  second_or None r is = is
  second_or (Some call) r is = is

  -- a first word that no operation has is a call's
  pub call_as : (word : List ℕ) (r : Result B LineFault) → bytes_eq called word ≡ true
      → list_all (λ row. not (bytes_eq word row.word)) operations ≡ true
      → IsRead view (said_by calls word others) r → IsRead view (call_of words) r
  unfolding call_of operate_of
  call_as word r same apart is =
      let here : nth_word words 0 ≡ word = sym first ∙ (bytes_eq-Decides called word).0 same in
      let none : said_by operations word (middle_of words) ≡ None = none_said operations word (middle_of words) apart in
      rw (here, none, ← rest) (second_or (said_by calls word others) r is)

  -- where none says anything, an operation is called
  pub call_else : (r : Result B LineFault) → None ≡ said_by calls called others → IsRead view (operate_of words) r
      → IsRead view (call_of words) r
  unfolding call_of
  call_else r none is = rw (← first, ← rest, ← none) is

-- the words of operations of two inputs are no calls', and none of them loads
apart : {A : Type 0} (rows : List (Row A)) (others : List (List ℕ)) (called : List ℕ)
    → list_all (λ row. list_all (λ word. not (bytes_eq row.word word)) others) rows ≡ true
    → list_any (λ row. bytes_eq called row.word) rows ≡ true
    → list_all (λ word. not (bytes_eq called word)) others ≡ true
apart [] others called all is = absurd (cc)
apart (row ∷ rows) others called all is =
    let parts = and_parts (list_all (λ word. not (bytes_eq row.word word)) others) (list_all (λ row. list_all (λ word. not (bytes_eq row.word word)) others) rows) all in
    elim (cases_Bool (bytes_eq called row.word)) [
      | inl same ↦ let e : called ≡ row.word = (bytes_eq-Decides called row.word).0 same in rw e parts.0
      | inr other ↦ apart rows others called parts.1 (rw other at is)
    ]

joined-apart : (called : List ℕ) → joins called ≡ true
    → list_all (λ word. not (bytes_eq called word)) (codes "load" ∷ map (λ row. row.word) calls) ≡ true
joined-apart called is = apart operations_of_two (codes "load" ∷ map (λ row. row.word) calls) called refl is

-- a line that is no load asks for what it calls
module _ (words : List (List ℕ)) (other : is_called words (codes "load") ≡ false) where
  pub called_command : (said : Option (Call Name Name)) → call_of words ≡ said
      → command_of words ≡ option_and_then (λ call. Some (Called call)) said
  unfolding command_of
  called_command said is = rw (other, is) refl

  pub called_fault : {B : Type 0} (view : B → Call Name Name) (why : LineFault) → IsRead view (call_of words) (Err why)
      → IsRead reading_in (command_of words) (Err why)
  called_fault view Syntax is = called_command None is
  called_fault view NoMemory is = tt

-- behind a word of an operation of two inputs such an operation is asked for
module _ (words : List (List ℕ)) (called : List ℕ) (first : nth_word words 0 ≡ called) (is : joins called ≡ true) where
  others_apart : (not (is_called words (codes "load")) ≡ true)
      × (list_all (λ row. not (bytes_eq (nth_word words 0) row.word)) calls ≡ true)
  others_apart =
      and_parts (not (is_called words (codes "load"))) (list_all (λ row. not (bytes_eq (nth_word words 0) row.word)) calls) (rw first (joined-apart called is))

  joined_call : call_of words ≡ operate_of words
  unfolding call_of
  joined_call =
      let none : said_by calls (nth_word words 0) (drop 1 words) ≡ None = none_said calls (nth_word words 0) (drop 1 words) others_apart.1 in
      rw none refl

  pub joined_command : (said : Option (Call Name Name)) → operate_of words ≡ said
      → command_of words ≡ option_and_then (λ call. Some (Called call)) said
  joined_command said means = called_command words (not-true (is_called words (codes "load")) others_apart.0) said (joined_call ∙ means)

-- what a call's row says is called
pub call_first : (words : List (List ℕ)) (called : List ℕ) (others : List (List ℕ)) (call : Call Name Name)
    → called ≡ nth_word words 0 → others ≡ drop 1 words → Some call ≡ said_by calls called others
    → call_of words ≡ Some call
unfolding call_of
call_first words called others call first rest is = rw (← first, ← rest, ← is) refl

-- none but `build` has more than five words
pub long_no_call : (words : List (List ℕ)) → 5 < length words → bytes_eq (nth_word words 0) (codes "build") ≡ false
    → None ≡ said_by calls (nth_word words 0) (drop 1 words)
long_no_call words long other =
    let size : length (drop 1 words) ≡ length words - 1 = length-drop 1 words in
    let one : (length (drop 1 words) == 1) ≡ false = grind (arith, nat_tests) in
    let two : (length (drop 1 words) == 2) ≡ false = grind (arith, nat_tests) in
    let three : (length (drop 1 words) == 3) ≡ false = grind (arith, nat_tests) in
    let four : (length (drop 1 words) == 4) ≡ false = grind (arith, nat_tests) in
    sym (none_fits calls (nth_word words 0) (drop 1 words) (simp (and-false, one, two, three, four, other) refl))

-- ---- parts of the tables

pub said_bare : (called : List ℕ) (words : List (List ℕ)) → bytes_eq called (codes "matrix") ≡ false
    → bytes_eq called (codes "vector") ≡ false → bytes_eq called (codes "dup") ≡ false
    → bytes_eq called (codes "resize") ≡ false → bytes_eq called (codes "build") ≡ false
    → bytes_eq called (codes "set") ≡ false → bytes_eq called (codes "remove") ≡ false
    → bytes_eq called (codes "get") ≡ false → bytes_eq called (codes "reduce") ≡ false
    → bytes_eq called (codes "wait") ≡ false
    → said_by calls called words ≡ said_by bare_calls called words
unfolding said_by
said_bare called words a b c d e f g h i j = rw (a, b, c, d, e, f, g, h, i, j) refl

-- rows of which none has a word say nothing before others, and nothing behind them
said_behind : {A : Type 0} (rows others : List (Row A)) (called : List ℕ) (words : List (List ℕ))
    → list_any (λ row. bytes_eq called row.word) rows ≡ false
    → said_by (rows ++ others) called words ≡ said_by others called words
unfolding said_by
said_behind [] others called words none = refl
said_behind (row ∷ rows) others called words none =
    let parts = or_parts (bytes_eq called row.word) (list_any (λ row. bytes_eq called row.word) rows) none in
    rw parts.0 (said_behind rows others called words parts.1)

said_before : {A : Type 0} (rows others : List (Row A)) (called : List ℕ) (words : List (List ℕ))
    → said_by others called words ≡ None → said_by (rows ++ others) called words ≡ said_by rows called words
unfolding said_by
said_before [] others called words none = none
said_before (row ∷ rows) others called words none =
    ap (cond (fits called words row) (read_words row.forms row.make words 0)) (said_before rows others called words none)

pub said_of_one : (called : List ℕ) (words : List (List ℕ)) → joins called ≡ false
    → bytes_eq called (codes "extract") ≡ false → bytes_eq called (codes "assign") ≡ false
    → bytes_eq called (codes "fill") ≡ false
    → said_by operations called words ≡ said_by operations_of_one called words
said_of_one called words none a b c =
    let nothing : said_by operations_on_regions called words ≡ None = none_said operations_on_regions called words (rw (a, b, c) refl) in
    said_behind operations_of_two (operations_of_one ++ operations_on_regions) called words none
    ∙ said_before operations_of_one operations_on_regions called words nothing

-- ---- operations

bound-none : {A B : Type 0} (o : Option A) → option_and_then {U = B} (λ x. None) o ≡ None
bound-none None = refl
bound-none (Some x) = refl

-- fewer than five words are no operation's
few_words : (words : List (List ℕ)) → length words < 5 → operate_of words ≡ None
unfolding operate_of out_of_words
few_words words few =
    let test : nat_le 5 (length words) ≡ false = grind (arith, nat_tests) in
    simp test (bound-none (said_by operations (nth_word words 0) (middle_of words)))

pub operate_of-few : {X : Type 0} (bytes : X → List ℕ) (words : List X) → length words < 5
    → operate_of (map bytes words) ≡ None
operate_of-few bytes words few = few_words (map bytes words) (omega (arith, few, length-map words bytes))

pub middle_of-map : {X : Type 0} (bytes : X → List ℕ) (words : List X) → 5 ≤ length words
    → map bytes (take (length words - 1 - 4) (drop 4 words)) ≡ middle_of (map bytes words)
middle_of-map bytes words enough =
    let count = length words - 1 - 4 in
    let last : length (map bytes words) - 1 ≡ 4 + count = omega (arith, length-map words bytes) in
    sym (ap (λ k. drop 4 (take k (map bytes words))) last ∙ drop-take 4 count (map bytes words) ∙ ap (take count) (drop-map bytes 4 words) ∙ take-map bytes count (drop 4 words))

pub drop_one-map : {X : Type 0} (bytes : X → List ℕ) (words : List X)
    → map bytes (take (length words - 1) (drop 1 words)) ≡ drop 1 (map bytes words)
drop_one-map bytes words = rw take_rest (sym (drop-map bytes 1 words))
