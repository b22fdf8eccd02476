-- An accepted load has a matrix, which makes an object.
use Rattle.std.proofs.Common.{◌≡◌, ◌∙◌, ℕ, true, List, None, Option, Some, Ok, sym}
use Rattle.std.specs.Borrow.{Bor}
use Rattle.std.specs.Option.{option_map}
use Rattle.algebra.specs.declared.domain.Domain.{Domain}
use Rattle.algebra.specs.Value.{is_built_in}
use Rattle.model.specs.MatrixMarket.{Matrix, matrix_in, object_read}
use Rattle.model.specs.Object.{IsObject}
use Rattle.model.proofs.MarketLaws.{matrix_in-inside, matrix_in-words, object_read-is_object}
use Rattle.plain.specs.Files.{matrix_of}
use Rattle.plain.proofs.environment.PlainEnvironment.load.Goals as goal

-- the matrix of a file makes an object
object_read-of_file : (domain : Domain) (file : Option (Bor (List ℕ))) (m : Matrix) → is_built_in domain ≡ true
    → option_map (λ bytes. matrix_in domain bytes.now) file ≡ Some (Ok m) → IsObject (object_read domain m)
object_read-of_file domain None m built_in is = absurd (cc)
object_read-of_file domain (Some bytes) m built_in is =
    let read : matrix_in domain bytes.now ≡ Ok m = cc in
    object_read-is_object domain m built_in (matrix_in-inside domain bytes.now m read) (matrix_in-words domain bytes.now m read)

pub object_read-requires-clause-object : goal.object_read-requires-clause-object
object_read-requires-clause-object c =
    object_read-of_file c.args.domain c.args.file (matrix_of c.in-Ok.matrix) c.requires (sym c.in_ok-found.ensures ∙ c.in-Ok.ensures.1)
