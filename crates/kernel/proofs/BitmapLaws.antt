-- What a task that writes all of its output along bitmaps leaves there.
use Rattle.std.proofs.Common.{◌≡◌, ◌∙◌, ℕ, ◌<◌, ◌*◌, ◌&&◌, true, cond, is_some, ltb, get_or, Bor, List, Option, Some, None, Result, Ok, Err, refl, sym, ap, inl, inr, arith}
use Rattle.std.specs.Option.{option_map_or}
use Rattle.std.specs.Prelude.{IfOk, IfSome}
use Rattle.std.proofs.lemmas.Bool.{and_parts, cases_Bool}
use Rattle.std.proofs.lemmas.Bool.Decides.{nat_tests}
use Rattle.algebra.proofs.Casts.{cast_own}
use Rattle.algebra.specs.declared.binary.BinaryOp.{BinaryOp}
use Rattle.algebra.specs.declared.domain.Domain.{Domain}
use Rattle.algebra.specs.declared.operator_names.OpName.{OpName}
use Rattle.algebra.specs.OperatorNames.{op_named}
use Rattle.algebra.specs.Operators.{answer_domain, eval_of, offers}
use Rattle.algebra.specs.Value.{IsWordOf, cast_of, same_domain}
use Rattle.bitmap.specs.Bitmaps.{Held, place_of}
use Rattle.bitmap.proofs.PlaceLaws.{place_inside}
use Rattle.kernel.specs.declared.bitmaps.Writing.{Writing}
use Rattle.kernel.specs.declared.bitmaps.Writing.TheVariants.{Anew, Over, Under}
use Rattle.kernel.specs.declared.task.Task.{Task}
use Rattle.kernel.specs.Bitmaps.{HasAll, IsEverywhere, IsReplacing, IsUnmasked, IsWriting, left_by}
use Rattle.kernel.specs.Inputs.{object_of}
use Rattle.kernel.specs.Spread.{computed_in, spread}
use Rattle.kernel.specs.Tasks.{operation_of, out_of}
use Rattle.kernel.proofs.Accepted.{straight-means, task-accumulates}
use Rattle.kernel.proofs.MaskLaws.{landed-spread, written_all}
use Rattle.kernel.proofs.Spread.{spread-accumulated}
use Rattle.masks.specs.declared.marked.MarkedMask.{MarkedMask}
use Rattle.masks.specs.Masks.{lets_word}
use Rattle.model.specs.ElementWise.{of_either}
use Rattle.model.specs.declared.call.Region.{Region}
use Rattle.model.specs.Entries.{IsInside, word_at}
use Rattle.model.specs.Fault.{accumulates}
use Rattle.model.specs.Lent.{operation_lent}
use Rattle.model.specs.Indices.{All}
use Rattle.model.specs.Object.{Content, cols_of, rows_of, signature_of}
use Rattle.model.specs.Operations.{computed, is_written_by, region_written}
use Rattle.model.specs.Regions.{cols_in, filled, is_listed, rows_in}
use Rattle.model.specs.WriteBack.{accumulated, landed, masked_at, result_of}
use Rattle.model.proofs.ObjectLaws.{cast_content-words, same_domain-true}
use Rattle.model.proofs.OldLaws.{region-renamed}
use Rattle.store.proofs.Content.{nothing_outside}
use Rattle.store.specs.Stored.{Stored, content_of}

listed_all : (m n i j : ℕ) → is_listed m n All All i j ≡ (ltb i m && ltb j n)
listed_all m n i j =
    elim (cases_Bool (ltb i m)) [
      | inl row ↦ elim (cases_Bool (ltb j n)) [ inl col ↦ rw (row, col) refl | inr past ↦ rw (row, past) refl ]
      | inr below ↦ rw below refl
    ]

-- inside a shape, an operation that writes everywhere writes
written-inside : (region : Option Region) (m n i j : ℕ) → IsEverywhere region → (ltb i m && ltb j n) ≡ true
    → option_map_or (λ r. is_listed m n (rows_in r) (cols_in r) i j) region true ≡ true
written-inside None m n i j all inside = refl
written-inside (Some region) m n i j all inside = rw (all.0, all.1, listed_all m n i j) inside

-- what is written in the place of what was there is what is computed, where that has all positions
module _ (task : Task) (had : Held) (none : task.out.accum ≡ None)
    (everywhere : IsEverywhere (region_written (operation_lent task.operation))) (inside : IsInside had.rows had.cols had.entries)
    (has : HasAll (rows_of task.out.c.signature.shape) (cols_of task.out.c.signature.shape)
    (computed_in (out_of task) (operation_of task)) had) where
  landed-anew : (i j : ℕ)
      → landed (out_of task) (is_written_by (out_of task).c.shape (operation_of task)) (computed_in (out_of task) (operation_of task)) i j
      ≡ computed_in (out_of task) (operation_of task) i j
  landed-anew i j =
      let out = out_of task in
      let op = operation_of task in
      let m = rows_of task.out.c.signature.shape in
      let n = cols_of task.out.c.signature.shape in
      let is_written = is_written_by out.c.shape op in
      let region : region_written op ≡ region_written (operation_lent task.operation) = region-renamed object_of (operation_lent task.operation) in
      elim (cases_Bool (ltb i m && ltb j n)) [
        | inl here ↦
            let written : is_written i j ≡ true =
            ap (λ (o : Option Region). option_map_or (λ r. is_listed m n (rows_in r) (cols_in r) i j) o true) region
            ∙ written-inside (region_written (operation_lent task.operation)) m n i j everywhere here in
            rw (none, written) refl
        | inr outside ↦
            let new : computed_in out op i j ≡ None = sym (has.words i j) ∙ nothing_outside had.rows had.cols had.entries i j inside (rw (has.rows_are, has.cols_are) outside) in
            let old : out.c.content i j ≡ None = task.out.c.is_object.within i j outside in
            elim (cases_Bool (is_written i j)) [
              | inl put ↦ rw (none, put) refl
              | inr left ↦ rw (none, left) (old ∙ sym new)
            ]
      ]

  -- ..everywhere
  all-anew : IsUnmasked task.out → (i j : ℕ)
      → computed_in (out_of task) (operation_of task) i j ≡ result_of (out_of task) (operation_of task) i j
  all-anew unmasked i j =
      let mask : (out_of task).mask ≡ None = rw unmasked.mask refl in
      sym (straight-means (out_of task) (operation_of task) task.straight i j ∙ rw (mask, unmasked.complement) (landed-anew i j))

  -- ..or where a mask lets it through
  all-under : (mask : MarkedMask) → IsReplacing task.out mask → (i j : ℕ) (word : Option ℕ)
      → word ≡ computed_in (out_of task) (operation_of task) i j
      → left_by (Under mask) i j word ≡ result_of (out_of task) (operation_of task) i j
  all-under mask writes i j word same =
      let out = out_of task in
      let op = operation_of task in
      let here = lets_word mask.test (word_at mask.bitmap.now.entries i j) in
      let z = landed out (is_written_by out.c.shape op) (computed_in out op) in
      let new : word ≡ z i j = same ∙ sym (landed-anew i j) in
      let replaced : masked_at out.desc.replace here (out.c.content i j) (z i j) ≡ cond here (z i j) None = rw writes.replace refl in
      ap (λ o. cond here o None) new
      ∙ sym (straight-means out op task.straight i j ∙ (ap (λ is_in. masked_at out.desc.replace is_in (out.c.content i j) (z i j)) (writes.set i j) ∙ replaced))

-- a function of one word alone that changes none accumulates
either-accumulated : (f : ℕ → ℕ) (op : OpName) (old new : Option ℕ) → ((word : ℕ) → old ≡ Some word → f word ≡ word)
    → ((word : ℕ) → new ≡ Some word → f word ≡ word)
    → of_either f f (eval_of op.kind op.domain) old new ≡ accumulated op old new
either-accumulated f op None None olds news = refl
either-accumulated f op (Some x) None olds news = ap Some (olds x refl)
either-accumulated f op None (Some y) olds news = ap Some (news y refl)
either-accumulated f op (Some x) (Some y) olds news = refl

-- a cast from an accumulator's domain to that of its answer changes no word of the output's
answer_own : (domain : Domain) (op : OpName) → accumulates domain op ≡ true → (word : ℕ) → IsWordOf domain word
    → cast_of op.domain (answer_domain op.kind op.domain) word ≡ word
answer_own domain op passes word is =
    let parts = and_parts (offers op.kind op.domain && same_domain op.domain domain) (same_domain (answer_domain op.kind op.domain) domain) passes in
    let from : op.domain ≡ domain = same_domain-true op.domain domain (and_parts (offers op.kind op.domain) (same_domain op.domain domain) parts.0).1 in
    let to : answer_domain op.kind op.domain ≡ domain = same_domain-true (answer_domain op.kind op.domain) domain parts.1 in
    ap (λ (d : Domain). cast_of op.domain d word) to ∙ ap (λ (d : Domain). cast_of d domain word) from ∙ cast_own domain word is

module _ (task : Task) (old : Bor Held) (op : BinaryOp) (writes : IsWriting task.out (Over old op)) where
  held_is : (i j : ℕ) → word_at old.now.entries i j ≡ (out_of task).c.content i j
  held_is i j = ap (λ (s : Stored). content_of s i j) writes.1.1

  accumulated_is : (i j : ℕ)
      → accumulated (op_named op) ((out_of task).c.content i j) (computed_in (out_of task) (operation_of task) i j)
      ≡ result_of (out_of task) (operation_of task) i j
  accumulated_is i j =
      let out = out_of task in
      let ops = operation_of task in
      let mask : out.mask ≡ None = rw writes.0.mask refl in
      let some : is_some out.accum ≡ true = rw writes.1.0 refl in
      let lands : written_all out (spread out ops) i j ≡ accumulated (op_named op) (out.c.content i j) (spread out ops i j) = rw (mask, writes.0.complement, writes.1.0) refl in
      ap (accumulated (op_named op) (out.c.content i j)) (spread-accumulated out ops some i j)
      ∙ sym (straight-means out ops task.straight i j ∙ (landed-spread out (is_written_by out.c.shape ops) (computed_in out ops) i j ∙ lands))

  all-over : (i j : ℕ) (word : Option ℕ) → word ≡ computed_in (out_of task) (operation_of task) i j
      → left_by (Over old op) i j word ≡ result_of (out_of task) (operation_of task) i j
  all-over i j word same =
      let out = out_of task in
      let t = computed (signature_of out.c) (operation_of task) in
      let alone : ℕ → ℕ = cast_of op.domain (answer_domain op.kind op.domain) in
      let own = answer_own out.c.domain (op_named op) (task-accumulates task (op_named op) writes.1.0) in
      ap (λ (o : Option ℕ). of_either alone alone (eval_of op.kind op.domain) o word) (held_is i j)
      ∙ (ap (of_either alone alone (eval_of op.kind op.domain) (out.c.content i j)) same
      ∙ (either-accumulated alone (op_named op) (out.c.content i j) (computed_in out (operation_of task) i j)
      (λ w is. own w (task.out.c.is_object.words i j w is))
      (λ w is. own w (cast_content-words t.domain out.c.domain t.content i j w is))
      ∙ accumulated_is i j))

-- what is left of a bitmap that has all that is computed
pub all-written : (task : Task) (writing : Writing) (had made : Held) → IsWriting task.out writing
    → IsEverywhere (region_written (operation_lent task.operation)) → IsInside had.rows had.cols had.entries
    → HasAll (rows_of task.out.c.signature.shape) (cols_of task.out.c.signature.shape)
    (computed_in (out_of task) (operation_of task)) had
    → made.rows ≡ had.rows → made.cols ≡ had.cols
    → ((i j : ℕ) → word_at made.entries i j ≡ left_by writing i j (word_at had.entries i j))
    → HasAll (rows_of task.out.c.signature.shape) (cols_of task.out.c.signature.shape)
    (result_of (out_of task) (operation_of task)) made
all-written task Anew had made writes everywhere inside has rows cols left = record {
  rows_are = rows ∙ has.rows_are;
  cols_are = cols ∙ has.cols_are;
  words = λ i j. left i j ∙ (has.words i j ∙ all-anew task had writes.1 everywhere inside has writes.0 i j);
}
all-written task (Over old op) had made writes everywhere inside has rows cols left = record {
  rows_are = rows ∙ has.rows_are;
  cols_are = cols ∙ has.cols_are;
  words = λ i j. left i j ∙ all-over task old op writes i j (word_at had.entries i j) (has.words i j);
}
all-written task (Under mask) had made writes everywhere inside has rows cols left = record {
  rows_are = rows ∙ has.rows_are;
  cols_are = cols ∙ has.cols_are;
  words = λ i j. left i j ∙ all-under task had writes.accum everywhere inside has mask writes i j (word_at had.entries i j) (has.words i j);
}

-- ---- bitmaps that are found

-- one that has all of a map has all of one that is the same
pub if_same : {E : Type 0} (result : Result (Option Held) E) (rows cols rows' cols' : ℕ) (c d : Content)
    → rows ≡ rows' → cols ≡ cols' → ((i j : ℕ) → c i j ≡ d i j)
    → IfOk result (λ found. IfSome found (HasAll rows cols c))
    → IfOk result (λ found. IfSome found (HasAll rows' cols' d))
if_same (Ok (Some b)) rows cols rows' cols' c d same_rows same_cols same has = record {
  rows_are = has.rows_are ∙ same_rows;
  cols_are = has.cols_are ∙ same_cols;
  words = λ i j. has.words i j ∙ same i j;
}
if_same (Ok None) rows cols rows' cols' c d same_rows same_cols same has = has
if_same (Err e) rows cols rows' cols' c d same_rows same_cols same has = has

-- a word at each place is one at each position
pub filled-all : (rows cols word : ℕ) (region : Region) (words : List ℕ) (made : Held)
    → rows_in region ≡ All → cols_in region ≡ All
    → made.rows ≡ rows → made.cols ≡ cols → IsInside made.rows made.cols made.entries
    → ((at : ℕ) → at < rows * cols → get_or words at 0 ≡ word)
    → ((i j : ℕ) → i < rows → j < cols → word_at made.entries i j ≡ Some (get_or words (place_of cols i j) 0))
    → HasAll rows cols (filled rows cols (rows_in region) (cols_in region) word) made
filled-all rows cols word region words made all_rows all_cols rows_are cols_are inside each content = record {
  rows_are = rows_are;
  cols_are = cols_are;
  words = λ i j. rw (all_rows, all_cols, listed_all rows cols i j) (elim (cases_Bool (ltb i rows && ltb j cols)) [
    | inl here ↦
        let i_in : i < rows = grind (arith, nat_tests) in
        let j_in : j < cols = grind (arith, nat_tests) in
        rw here (content i j i_in j_in ∙ ap Some (each (place_of cols i j) (place_inside rows cols i j i_in j_in)))
    | inr out ↦ rw out (nothing_outside made.rows made.cols made.entries i j inside (rw (rows_are, cols_are) out))
  ]);
}
