-- Edits that wait on an object.
use Rattle.algebra.specs.declared.domain.Domain.{Domain}
use Rattle.algebra.specs.Value.{IsWordOf}
use Rattle.model.specs.Object.{Object}
use Rattle.patch.specs.declared.edits.Edit.{Edit}
use Rattle.patch.specs.declared.edits.Edit.TheVariants.{Set, Remove}
use Rattle.patch.specs.Edits.{edited_once}

-- an edit that sets a word of a domain, or none
abbrev pub IsEditOf : Domain → Edit → Type 0
IsEditOf domain (Set i j word) = IsWordOf domain word
IsEditOf domain (Remove i j) = Unit {0}

-- an object after one edit
abbrev pub edited_object : Object → Edit → Object
edited_object o edit = record o { content = edited_once o.content edit }
