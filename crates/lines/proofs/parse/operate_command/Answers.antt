-- What the operation is.
use Rattle.std.proofs.Common.{Bor, List, Err, Ok, Some, ℕ, map, refl}
use Rattle.model.specs.Renamed.{renamed}
use Rattle.lines.proofs.RowLaws.{call_else, called_command, called_fault}
use Rattle.lines.proofs.parse.operate_command.Goals as goal

pub returns-in-Ok : goal.returns-in-Ok
returns-in-Ok c =
    let words = map (λ word. word.now) c.args.words.now in
    let view = renamed (λ (name : Bor (List ℕ)). name.now) (λ (name : Bor (List ℕ)). name.now) in
    called_command words c.requires.no_load (Some (view c.in-Ok.call)) (call_else words view _ _ refl refl (Ok c.in-Ok.call) c.requires.no_call c.in-Ok.ensures)

pub returns-in-Err : goal.returns-in-Err
returns-in-Err c =
    let words = map (λ word. word.now) c.args.words.now in
    let view = renamed (λ (name : Bor (List ℕ)). name.now) (λ (name : Bor (List ℕ)). name.now) in
    called_fault words c.requires.no_load view c.in-Err.fault (call_else words view _ _ refl refl (Err c.in-Err.fault) c.requires.no_call c.in-Err.ensures)
