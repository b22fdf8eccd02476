-- What bitmaps hold, and how it lies: a place for each position of a shape, row by row.
use Rattle.std.specs.Prelude.{ℕ, ◌≡◌, ◌+◌, ◌*◌, ◌/◌, ◌^◌, ◌≤◌, if◌then◌else◌, false, List, length, map, slice_index}
use Rattle.std.specs.Prelude.{Option, None, Some}
use Rattle.std.specs.List.{filter_map, zip}
use Rattle.std.specs.Option.{option_map}
use Rattle.lanes.specs.Bits.{has_bit}
use Rattle.model.specs.declared.entry.Entry.{Entry}
use Rattle.model.specs.Entries.{count_from, entries_of, entry_at}
use Rattle.model.specs.Object.{Content}

-- a shape and its entries in row-major order
pub record Held : Type 0 where
  pub rows : ℕ
  pub cols : ℕ
  pub entries : List Entry

-- the entries of some rows of one column
abbrev pub entries_down : List ℕ → List ℕ → List Entry
entries_down rows words = map (λ at. entry_at at.0 0 at.1) (zip rows words)

-- entries in lists, and how many the lists have room for
pub record Listed : Type 0 where
  pub entries : List Entry
  pub room : ℕ

-- the entries of n rows of one column, from the first on, by the word at each
abbrev pub column_entries : (ℕ → Option ℕ) → ℕ → ℕ → List Entry
column_entries f first n = filter_map (λ at. option_map (entry_at at 0) (f at)) (count_from first n)

-- the entries of a row of a map at n columns, from the first on
abbrev pub row_part : Content → ℕ → ℕ → ℕ → List Entry
row_part c i first n = filter_map (λ j. option_map (entry_at i j) (c i j)) (count_from first n)

-- the place of a position; a column's places are its rows
abbrev pub place_of : ℕ → ℕ → ℕ → ℕ
place_of cols i j = i * cols + j

-- the word at a place whose bit is set
abbrev pub word_in : List ℕ → List ℕ → ℕ → Option ℕ
word_in bits words at = if has_bit bits at then Some (slice_index words at) else None

-- what stands at the positions of a shape with so many columns
abbrev pub held : ℕ → List ℕ → List ℕ → Content
held cols bits words i j = word_in bits words (place_of cols i j)

-- what bits and words are
abbrev pub stored : ℕ → ℕ → List ℕ → List ℕ → Held
stored rows cols bits words = record {
  rows = rows;
  cols = cols;
  entries = entries_of rows cols (held cols bits words);
}

-- a word and a bit for each position, no bit behind the last one, and the number of entries
pub record HasPlaces (rows cols count : ℕ) (bits words : List ℕ) : Type 0 where
  pub small : rows * cols ≤ 2 ^ 24
  pub word_each : length words ≡ rows * cols
  pub bit_each : length bits ≡ length words / 64 + 1
  pub none_behind : (at : ℕ) → length words ≤ at → has_bit bits at ≡ false
  pub counted : count ≡ length (entries_of rows cols (held cols bits words))
