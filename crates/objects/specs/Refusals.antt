-- What calls answer whose value isn't there.
use Rattle.model.specs.declared.status.Status.{Status}
use Rattle.model.specs.declared.status.Status.TheVariants.{InvalidObject, OutOfMemory}
use Rattle.objects.specs.declared.kept.Refusal.{Refusal}
use Rattle.objects.specs.declared.kept.Refusal.TheVariants.{NoMemory, Failed}

abbrev pub status_of : Refusal → Status
status_of NoMemory = OutOfMemory
status_of Failed = InvalidObject
