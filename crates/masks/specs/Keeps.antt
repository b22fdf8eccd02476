-- What of some entries a mask keeps: those at the positions that it lets through.
use Rattle.std.specs.Prelude.{List}
use Rattle.std.specs.List.{filter}
use Rattle.model.specs.declared.entry.Entry.{Entry}
use Rattle.model.specs.Entries.{word_at}
use Rattle.masks.specs.declared.view.MaskTest.{MaskTest}
use Rattle.masks.specs.Masks.{lets_word}

-- the entries that a mask keeps, by the entries of its store; rows and columns may be exchanged in both
abbrev pub kept_by : MaskTest → List Entry → List Entry → List Entry
kept_by test stored es = filter (λ e. lets_word test (word_at stored e.row e.col)) es
