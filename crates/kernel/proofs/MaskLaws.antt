-- What is computed counts at the positions of the mask alone.
use Rattle.std.proofs.Common.{◌≡◌, ◌∙◌, ℕ, ◌<◌, ◌≤◌, Bool, true, false, cond, if◌then◌else◌, is_none, Option, refl, Some, None, Result, Ok, Err, sym, ap, inl, inr}
use Rattle.std.specs.Prelude.{IfOk}
use Rattle.std.specs.Option.{option_map}
use Rattle.std.proofs.lemmas.Bool.{cases_Bool, false≢true}
use Rattle.std.proofs.lemmas.Option.{none-some}
use Rattle.algebra.specs.declared.domain.Domain.{Domain}
use Rattle.algebra.specs.declared.operator_names.OpName.{OpName}
use Rattle.algebra.specs.Value.{IsWordOf, cast_of}
use Rattle.kernel.specs.Blocks.{AgreesUnder, HasRows, IsUnder}
use Rattle.kernel.specs.Products.{is_product}
use Rattle.masks.specs.declared.view.Mask.{Mask}
use Rattle.masks.specs.Masks.{lets_through}
use Rattle.masks.specs.Writes.{inside_of, written_at, written_by}
use Rattle.model.specs.declared.call.Operation.{Operation}
use Rattle.model.specs.declared.call.Operation.TheVariants.{Fill, OfOne, OfTwo}
use Rattle.model.specs.declared.call.Out.{Out}
use Rattle.model.specs.declared.call.Region.{Region}
use Rattle.model.specs.Object.{AreWordsOf, Content, Object, cast_content}
use Rattle.model.specs.Operations.{region_written}
use Rattle.model.specs.WriteBack.{accumulated, accumulated_by, landed, mask_set, masked}
use Rattle.store.specs.Stored.{Block, block_content}

-- rows of what a mask lets through of a map that is the same
pub agrees-masked : (mask : Mask) (first past cols cols' : ℕ) (c d : Content) (block : Block) → cols ≡ cols'
    → ((i j : ℕ) → c i j ≡ d i j)
    → HasRows first past cols (inside_of mask c) block → AgreesUnder mask first past cols' d block
agrees-masked mask first past cols cols' c d block same_cols same has = record {
  first_is = has.first_is;
  past_is = has.past_is;
  cols_are = has.cols_are ∙ same_cols;
  words = λ i j low high inside. has.words i j low high ∙ ap (λ test. cond test (c i j) None) inside ∙ same i j;
}

-- ..have nothing elsewhere
pub rows-under : (mask : Mask) (first past cols : ℕ) (c : Content) (block : Block)
    → HasRows first past cols (inside_of mask c) block → IsUnder mask first past block
rows-under mask first past cols c block has i j low high outside =
    has.words i j low high ∙ ap (λ test. cond test (c i j) None) outside

-- what has nothing outside the mask set is left as it is, where what was there goes
pub left-alone : (mask : Mask) (accum : Option OpName) (replace : Bool) (old t : Content) (i j : ℕ) → accum ≡ None
    → replace ≡ true → (lets_through mask i j ≡ false → t i j ≡ None)
    → t i j ≡ written_by mask accum replace old t i j
left-alone mask accum replace old t i j alone goes under =
    rw (alone, goes) (elim (cases_Bool (lets_through mask i j)) [
      | inl inside ↦ rw inside refl
      | inr outside ↦ rw outside (under outside)
    ])

written-same : (mask : Mask) (out : Out Object) (t all : Content) (i j : ℕ)
    → (lets_through mask i j ≡ true → t i j ≡ all i j)
    → let write = written_at out.accum out.desc.replace in
    write (lets_through mask i j) (out.c.content i j) (t i j) ≡ write (lets_through mask i j) (out.c.content i j) (all i j)
written-same mask out t all i j same =
    elim (cases_Bool (lets_through mask i j)) [
      | inl inside ↦ ap (written_at out.accum out.desc.replace (lets_through mask i j) (out.c.content i j)) (same inside)
      | inr outside ↦ let write = written_at out.accum out.desc.replace in
          ap (λ is_in. write is_in (out.c.content i j) (t i j)) outside ∙ sym (ap (λ is_in. write is_in (out.c.content i j) (all i j)) outside)
    ]

-- values that are accumulated everywhere, and stand in the mask set
abbrev pub written_all : Out Object → Content → Content
written_all out all = masked out (landed out (λ i j. true) all)

pub written-masked : (mask : Mask) (out : Out Object) (t all : Content) (i j : ℕ)
    → mask_set out i j ≡ lets_through mask i j
    → (lets_through mask i j ≡ true → t i j ≡ all i j)
    → written_by mask out.accum out.desc.replace out.c.content t i j ≡ written_all out all i j
written-masked mask out t all i j same is =
    written-same mask out t all i j is
    ∙ ap (λ is_in. written_at out.accum out.desc.replace is_in (out.c.content i j) (all i j)) (sym same)

-- rows of a map, where there is memory for them, are those of one that is the same there
pub if_rows : {E : Type 0} (result : Result Block E) (first past cols cols' : ℕ) (c d : Content) → cols ≡ cols'
    → ((i j : ℕ) → first ≤ i → i < past → c i j ≡ d i j)
    → IfOk result (λ block. block.first ≡ first) → IfOk result (λ block. block.past ≡ past)
    → IfOk result (λ block. block.cols ≡ cols)
    → IfOk result (λ block. (i j : ℕ) → first ≤ i → i < past → block_content block i j ≡ c i j)
    → IfOk result (HasRows first past cols' d)
if_rows (Ok block) first past cols cols' c d same_cols same is_first is_past is_cols words = record {
  first_is = is_first;
  past_is = is_past;
  cols_are = is_cols ∙ same_cols;
  words = λ i j low high. words i j low high ∙ same i j low high;
}
if_rows (Err e) first past cols cols' c d same_cols same is_first is_past is_cols words = tt

-- they agree with the map at the positions that a mask lets through
pub agrees-rows : (mask : Mask) (first past cols : ℕ) (c : Content) (block : Block) → HasRows first past cols c block
    → AgreesUnder mask first past cols c block
agrees-rows mask first past cols c block has = record {
  first_is = has.first_is;
  past_is = has.past_is;
  cols_are = has.cols_are;
  words = λ i j low high inside. has.words i j low high;
}

-- rows that agree with a map, in another domain
pub agrees-cast : (mask : Mask) (first past cols : ℕ) (from to : Domain) (c : Content) (block result : Block)
    → AreWordsOf from c → AgreesUnder mask first past cols c block
    → result.first ≡ block.first → result.past ≡ block.past → result.cols ≡ block.cols
    → ((i j : ℕ) → ((word : ℕ) → block_content block i j ≡ Some word → IsWordOf from word)
    → block_content result i j ≡ cast_content from to (block_content block) i j)
    → AgreesUnder mask first past cols (cast_content from to c) result
agrees-cast mask first past cols from to c block result words agrees is_first is_past is_cols content = record {
  first_is = is_first ∙ agrees.first_is;
  past_is = is_past ∙ agrees.past_is;
  cols_are = is_cols ∙ agrees.cols_are;
  words = λ i j low high inside.
      let here = agrees.words i j low high inside in
      content i j (λ word stored. words i j word (sym here ∙ stored)) ∙ ap (option_map (cast_of from to)) here;
}

-- ..and have nothing outside the mask set where they had nothing
pub under-cast : (mask : Mask) (first past : ℕ) (from to : Domain) (block result : Block)
    → IsUnder mask first past block
    → ((i j : ℕ) → ((word : ℕ) → block_content block i j ≡ Some word → IsWordOf from word)
    → block_content result i j ≡ cast_content from to (block_content block) i j)
    → IsUnder mask first past result
under-cast mask first past from to block result under content i j low high outside =
    let none = under i j low high outside in
    content i j (λ word stored. absurd (none-some word (sym none ∙ stored))) ∙ ap (option_map (cast_of from to)) none

-- what is no product promises nothing
pub no-product : {E : Type 0} (result : Result Block E) (P : Block → Type 0)
    → IfOk result (λ block. false ≡ true → P block)
no-product (Ok block) P = λ is. absurd (false≢true is)
no-product (Err e) P = tt

-- a product writes no region
pub no-region : {K : Type 0} (op : Operation K) (region : Region) → Some region ≡ region_written op → is_product op ≡ false
unfolding is_product
no-region (Fill value at) region is = refl
no-region (OfOne computes a) region is = refl
no-region (OfTwo computes a b) region is = absurd (none-some region (sym is))

-- ---- outside a region

abbrev spread_at : Bool → Option OpName → Option ℕ → Option ℕ → Option ℕ
spread_at here accum old new = if here then new else if is_none accum then old else None

accumulated-nothing : (op : OpName) (old : Option ℕ) → old ≡ accumulated op old None
accumulated-nothing op None = refl
accumulated-nothing op (Some x) = refl

-- what stays outside a region is what is accumulated there
landed-at : (here : Bool) (accum : Option OpName) (old new : Option ℕ)
    → (if here then accumulated_by accum old new else old) ≡ accumulated_by accum old (spread_at here accum old new)
landed-at true accum old new = refl
landed-at false None old new = refl
landed-at false (Some op) old new = accumulated-nothing op old

pub landed-spread : (out : Out Object) (is_written : ℕ → ℕ → Bool) (values : Content) (i j : ℕ)
    → masked out (landed out is_written values) i j
    ≡ written_all out (λ i j. spread_at (is_written i j) out.accum (out.c.content i j) (values i j)) i j
landed-spread out is_written values i j =
    ap (λ z. if mask_set out i j then z else if out.desc.replace then None else out.c.content i j) (landed-at (is_written i j) out.accum (out.c.content i j) (values i j))

-- rows of what is computed, and outside a region what is there
agrees-over : (mask : Mask) (first past cols : ℕ) (is_written : ℕ → ℕ → Bool) (old c d : Content)
    (block new : Block) → AgreesUnder mask first past cols c block
    → new.first ≡ block.first → new.past ≡ block.past → new.cols ≡ block.cols
    → ((i j : ℕ) → block.first ≤ i → i < block.past
    → block_content new i j ≡ (if is_written i j then block_content block i j else old i j))
    → ((i j : ℕ) → (if is_written i j then c i j else old i j) ≡ d i j)
    → AgreesUnder mask first past cols d new
agrees-over mask first past cols is_written old c d block new agrees is_first is_past is_cols words same = record {
  first_is = is_first ∙ agrees.first_is;
  past_is = is_past ∙ agrees.past_is;
  cols_are = is_cols ∙ agrees.cols_are;
  words = λ i j low high inside.
      words i j (rw agrees.first_is low) (rw agrees.past_is high)
      ∙ ap (λ x. if is_written i j then x else old i j) (agrees.words i j low high inside) ∙ same i j;
}

-- ..where there is memory for them
pub if_over : {E : Type 0} (result : Result Block E) (mask : Mask) (first past cols : ℕ) (is_written : ℕ → ℕ → Bool)
    (old c d : Content) (block : Block) → AgreesUnder mask first past cols c block
    → IfOk result (λ new. new.first ≡ block.first) → IfOk result (λ new. new.past ≡ block.past)
    → IfOk result (λ new. new.cols ≡ block.cols)
    → IfOk result (λ new. (i j : ℕ) → block.first ≤ i → i < block.past
    → block_content new i j ≡ (if is_written i j then block_content block i j else old i j))
    → ((i j : ℕ) → (if is_written i j then c i j else old i j) ≡ d i j)
    → IfOk result (AgreesUnder mask first past cols d)
if_over (Ok new) mask first past cols is_written old c d block agrees is_first is_past is_cols words same =
    agrees-over mask first past cols is_written old c d block new agrees is_first is_past is_cols words same
if_over (Err e) mask first past cols is_written old c d block agrees is_first is_past is_cols words same = tt

-- rows that agree with a map agree with one that is the same
pub agrees-same : (mask : Mask) (first past cols : ℕ) (c d : Content) (block : Block) → ((i j : ℕ) → c i j ≡ d i j)
    → AgreesUnder mask first past cols c block → AgreesUnder mask first past cols d block
agrees-same mask first past cols c d block same agrees = record {
  first_is = agrees.first_is;
  past_is = agrees.past_is;
  cols_are = agrees.cols_are;
  words = λ i j low high inside. agrees.words i j low high inside ∙ same i j;
}
