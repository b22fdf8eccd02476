-- Blocks of rows, put one behind the other.
use Rattle.std.proofs.Common.{◌≡◌, ◌≢◌, ◌∙◌, ◌<◌, ◌≤◌, ℕ, List, [], ◌∷◌, ◌++◌, append-nil, length, refl, sym, ap, subst, inl, inr, arith}
use Rattle.std.specs.List.{All}
use Rattle.std.proofs.lemmas.Bool.{cases_lt}
use Rattle.std.proofs.lemmas.List.{nil_from_length}
use Rattle.std.proofs.lemmas.List.Elements.{All-append, All-head, All-nil, All-tail, All-weaker}
use Rattle.kernel.specs.declared.block.Block.{Block}
use Rattle.kernel.specs.declared.block.Block.TheVariants.{Rows, Whole}
use Rattle.kernel.specs.Covers.{Covers, IsPartOf}
use Rattle.kernel.specs.Pieces.{cols_in}
use Rattle.model.specs.declared.entry.Entry.{Entry}
use Rattle.model.specs.Entries.{word_at}
use Rattle.model.specs.Object.{Content}
use Rattle.pieces.specs.declared.joint.Joint.{Joint}
use Rattle.pieces.specs.Joints.{IsBehind, IsOfFibers, entries_of, words_in}
use Rattle.store.specs.Stored.{AreHeld, AreIn, Stored, along}
use Rattle.store.specs.Stored.{Block as Piece}
use Rattle.store.proofs.Contents.{along_none, no_entries, none_held}
use Rattle.store.proofs.PartLaws.{along_append, word_before, word_behind}

-- the entries are those of the rows of the first blocks, up to before one that the others begin with
pub record AreUpTo (rows cols : ℕ) (all rest : List Block) (es : List Entry) : Type 0 where
  pub row : ℕ
  pub inside : AreIn 0 row cols es
  pub others : (c : Content) → All (IsPartOf cols c) all → All (IsPartOf cols c) rest
  pub words : (c : Content) → All (IsPartOf cols c) all → (i j : ℕ) → i < row → word_at es i j ≡ c i j
  pub covers : Covers row rows rest
  pub cols_are : All (λ b. cols_in b ≡ cols) rest

pub up_start : (rows cols : ℕ) (all rest : List Block) (es : List Entry) → Covers 0 rows all
    → All (λ b. cols_in b ≡ cols) all → rest ≡ all → es ≡ [] → AreUpTo rows cols all rest es
up_start rows cols all rest es covers cols_are is none = record {
  row = 0;
  inside = rw none (All-nil (λ e. ((0 ≤ e.row) × (e.row < 0)) × (e.col < cols)));
  others = λ c are. subst (All (IsPartOf cols c)) (sym is) are;
  words = λ c are i j low. absurd (omega arith);
  covers = subst (Covers 0 rows) (sym is) covers;
  cols_are = subst (All (λ b. cols_in b ≡ cols)) (sym is) cols_are;
}

-- the next block has rows
covers_rows : (row rows : ℕ) (block : Piece) (left : List Block) → Covers row rows (Rows block ∷ left)
    → (block.first ≡ row) × (block.first ≤ block.past) × Covers block.past rows left
unfolding Covers
covers_rows row rows block left covers = covers

no_whole : (row rows : ℕ) (store : Stored) (left : List Block) → Covers row rows (Whole store ∷ left) → ⊥
unfolding Covers
no_whole row rows store left covers = covers

pub up_whole : (rows cols : ℕ) (all rest left : List Block) (store : Stored) (es : List Entry)
    → AreUpTo rows cols all rest es → rest ≡ Whole store ∷ left → ⊥
up_whole rows cols all rest left store es up is =
    no_whole up.row rows store left (subst (Covers up.row rows) is up.covers)

pub next_cols : (rows cols : ℕ) (all rest left : List Block) (block : Piece) (es : List Entry)
    → AreUpTo rows cols all rest es → rest ≡ Rows block ∷ left → block.cols ≡ cols
next_cols rows cols all rest left block es up is =
    All-head (λ b. cols_in b ≡ cols) (Rows block) left (subst (All (λ b. cols_in b ≡ cols)) is up.cols_are)

pub up_front : (rows cols : ℕ) (all rest left : List Block) (block : Piece) (es : List Entry)
    → AreUpTo rows cols all rest es → rest ≡ Rows block ∷ left → AreIn 0 block.first cols es
up_front rows cols all rest left block es up is =
    let covers = covers_rows up.row rows block left (subst (Covers up.row rows) is up.covers) in
    rw covers.0 up.inside

-- blocks end with the last row
covers_past : (row rows : ℕ) (bs : List Block) → Covers row rows bs → row ≤ rows
unfolding Covers
covers_past row rows [] covers = omega (arith, covers)
covers_past row rows (Rows b ∷ bs) covers =
    let rest = covers_past b.past rows bs covers.2 in
    omega (arith, covers.0, covers.1)
covers_past row rows (Whole s ∷ bs) covers = absurd covers

pub up_past : (rows cols : ℕ) (all rest left : List Block) (block : Piece) (es : List Entry)
    → AreUpTo rows cols all rest es → rest ≡ Rows block ∷ left → block.past ≤ rows
up_past rows cols all rest left block es up is =
    let covers = covers_rows up.row rows block left (subst (Covers up.row rows) is up.covers) in
    covers_past block.past rows left covers.2

pub up_more : (rows cols : ℕ) (all rest left : List Block) (block : Piece) (es new : List Entry)
    → AreUpTo rows cols all rest es → rest ≡ Rows block ∷ left → new ≡ es ++ block.entries
    → AreIn block.first block.past block.cols block.entries → AreUpTo rows cols all left new
up_more rows cols all rest left block es new up is whole inside =
    let covers = covers_rows up.row rows block left (subst (Covers up.row rows) is up.covers) in
    let first = covers.0 in
    let rises = covers.1 in
    let same = next_cols rows cols all rest left block es up is in
    let next : (c : Content) → All (IsPartOf cols c) all → All (IsPartOf cols c) (Rows block ∷ left) =
    λ c are. subst (All (IsPartOf cols c)) is (up.others c are) in
    let back : AreIn up.row block.past cols block.entries =
    subst (λ n. AreIn n block.past cols block.entries) first (subst (λ n. AreIn block.first block.past n block.entries) same inside) in
    record {
      row = block.past;
      inside = subst (AreIn 0 block.past cols) (sym whole)
          (All-append (λ e. ((0 ≤ e.row) × (e.row < block.past)) × (e.col < cols)) es block.entries
          (All-weaker (λ (e : Entry). ((0 ≤ e.row) × (e.row < up.row)) × (e.col < cols)) (λ (e : Entry). ((0 ≤ e.row) × (e.row < block.past)) × (e.col < cols))
          (λ e p. let below = p.0.1 in ((omega arith, omega arith), p.1)) es up.inside)
          (All-weaker (λ (e : Entry). ((up.row ≤ e.row) × (e.row < block.past)) × (e.col < cols)) (λ (e : Entry). ((0 ≤ e.row) × (e.row < block.past)) × (e.col < cols))
          (λ e p. ((omega arith, p.0.1), p.1)) block.entries back));
      others = λ c are. All-tail (IsPartOf cols c) (Rows block) left (next c are);
      words = λ c are i j below.
          let of_c = All-head (IsPartOf cols c) (Rows block) left (next c are) in
          ap (λ es. word_at es i j) whole ∙
          elim (cases_lt i up.row) [
            | inl early ↦
                word_before i j es block.entries (All-weaker (λ (e : Entry). ((up.row ≤ e.row) × (e.row < block.past)) × (e.col < cols)) (λ (e : Entry). i ≢ e.row) (λ e p at. let low = p.0.0 in absurd (omega arith)) block.entries back)
                ∙ up.words c are i j early
            | inr late ↦
                word_behind i j es block.entries (All-weaker (λ (e : Entry). ((0 ≤ e.row) × (e.row < up.row)) × (e.col < cols)) (λ (e : Entry). i ≢ e.row) (λ e p at. let high = p.0.1 in absurd (omega arith)) es up.inside)
                ∙ of_c.words i j (rw first late) below
          ];
      covers = covers.2;
      cols_are = All-tail (λ b. cols_in b ≡ cols) (Rows block) left (subst (All (λ b. cols_in b ≡ cols)) is up.cols_are);
    }

-- a block without entries adds none
pub up_empty : (rows cols : ℕ) (all rest left : List Block) (block : Piece) (es : List Entry)
    → AreUpTo rows cols all rest es → rest ≡ Rows block ∷ left → length block.entries ≡ 0
    → AreIn block.first block.past block.cols block.entries → AreUpTo rows cols all left es
up_empty rows cols all rest left block es up is none inside =
    up_more rows cols all rest left block es es up is (sym (append-nil es) ∙ ap (λ more. es ++ more) (sym (nil_from_length block.entries none))) inside

-- the entries are those of all rows
pub record AreAll (rows cols : ℕ) (all : List Block) (es : List Entry) : Type 0 where
  pub inside : AreIn 0 rows cols es
  pub words : (c : Content) → All (IsPartOf cols c) all → (i j : ℕ) → i < rows → word_at es i j ≡ c i j

covers_none : (row rows : ℕ) (rest : List Block) → Covers row rows rest → length rest ≡ 0 → row ≡ rows
unfolding Covers
covers_none row rows [] covers none = covers
covers_none row rows (b ∷ bs) covers none = absurd (omega (arith, none))

pub up_all : (rows cols : ℕ) (all rest : List Block) (es : List Entry) → AreUpTo rows cols all rest es
    → length rest ≡ 0 → AreAll rows cols all es
up_all rows cols all rest es up none =
    let end = covers_none up.row rows rest up.covers none in
    record {
      inside = subst (λ n. AreIn 0 n cols es) end up.inside;
      words = λ c are i j below. up.words c are i j (omega arith);
    }

-- ---- fibers of several lists

-- no fibers
pub no_fibers : (cols : ℕ) (joint : Joint) → joint.ends.items ≡ [] → joint.count ≡ 0 → joint.inner.items ≡ []
    → joint.words.items ≡ [] → IsOfFibers joint × (along cols (entries_of joint) ≡ [])
no_fibers cols joint ends count inner words =
    let held : AreHeld 0 0 cols joint.ends.items (words_in joint.inner.items) (words_in joint.words.items) =
    rw (ends, inner, words) (none_held 0 0 cols) in (
      record { flat = held.flat; counted = rw (count, inner) refl },
      ap (along cols) (no_entries 0 joint.ends.items (words_in joint.inner.items) (words_in joint.words.items) ends) ∙ along_none cols,
    )

-- those of a block behind others
pub fibers_behind : (cols : ℕ) (block : Piece) (old new : Joint) → block.cols ≡ cols → IsBehind block old new
    → along cols (entries_of new) ≡ along cols (entries_of old) ++ block.entries
fibers_behind cols block old new same behind =
    let front = along cols (entries_of old) in
    ap (along cols) behind.whole ∙ along_append cols (entries_of old) behind.part
    ∙ ap (λ es. front ++ es) (subst (λ n. along n behind.part ≡ block.entries) same behind.entries)
