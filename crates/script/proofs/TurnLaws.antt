-- The text of one line's answer: its number, a status, and its data lines.
use Rattle.std.proofs.Common.{◌≡◌, ℕ, List, [], ◌∷◌, ◌++◌, Result, Ok, Err, OnOk, refl, sym, ◌∙◌, inl, inr}
use Rattle.std.specs.Prelude.{decimal}
use Rattle.std.specs.List.{flat_map}
use Rattle.std.proofs.lemmas.List.{append-nil}
use Rattle.std.specs.Str.{bytes_eq}
use Rattle.algebra.specs.declared.domain.Domain.{Domain}
use Rattle.model.specs.declared.call.Call.{Call}
use Rattle.model.specs.declared.call.Call.TheVariants.{Operate}
use Rattle.model.specs.declared.call.Operation.{Operation}
use Rattle.model.specs.declared.call.Out.{Out}
use Rattle.model.specs.declared.status.Status.{Status}
use Rattle.model.specs.declared.status.Status.TheVariants as status
use Rattle.model.specs.Grammar.{Name, Reading, Silent, Malformed, Called, Loads}
use Rattle.model.specs.Marks.{Settles, State, Unmarked, left_by, looked_at, with_mark}
use Rattle.model.specs.MatrixMarket.{File}
use Rattle.model.specs.Poisoned.{IsDone, invalid_object}
use Rattle.model.specs.Run.{data_lines_of, load, loaded, on_objects, step, turn}
use Rattle.model.specs.Runs.{IsAnswered, out_of_memory}
use Rattle.model.specs.Text.{Answer, answer_text, ended, status_name}
use Rattle.model.proofs.SettlesLaws.{settles-same, settles-self}
use Rattle.script.specs.Replied.{EndsAsLoad, named_setting}
use Rattle.script.specs.Turns.{Says, SaysBehind}
use Rattle.session.specs.Ends.{Ends, IsAccepted}

-- the first line of an answer
abbrev pub status_line : ℕ → Status → List ℕ
status_line number s = decimal number ++ 32 ∷ ended (status_name s)

-- an answer's text is its first line and its data lines
text_of_one : (a : Answer) (text : List ℕ) → text ≡ status_line a.number a.status ++ flat_map ended a.data_lines
    → text ≡ flat_map answer_text (a ∷ [])
unfolding answer_text
text_of_one a text texts = texts ∙ sym (append-nil (answer_text a))

-- ..its first line, where it has no data lines
text_of_bare : (number : ℕ) (s : Status) (text : List ℕ) → text ≡ status_line number s
    → (let a : Answer = record { number = number; status = s; data_lines = [] } in text ≡ flat_map answer_text (a ∷ []))
text_of_bare number s text texts =
    text_of_one (record { number = number; status = s; data_lines = [] }) text (texts ∙ sym (append-nil (status_line number s)))

-- ---- lines without a call

-- a line that is silent
pub says-nothing : (reading : Reading File) (number : ℕ) (before : State Name) (text : List ℕ) → reading ≡ Silent
    → text ≡ [] → Says number before reading text before
unfolding turn
says-nothing reading number before text read empty =
    rw read ([], before, inl (record { says = refl; untold = refl; leaves = refl }), settles-self before, empty)

-- a line that is no command, where its answer is written
pub says-malformed : {E : Type 0} (r : Result (Unit {0}) E) (reading : Reading File) (number : ℕ)
    (before : State Name) (text : List ℕ)
    → reading ≡ Malformed
    → OnOk r (text ≡ status_line number status.Syntax)
    → OnOk r (Says number before reading text before)
unfolding turn
says-malformed (Err refused) reading number before text read texts = tt
says-malformed (Ok done) reading number before text read texts =
    let said : Answer = record { number = number; status = status.Syntax; data_lines = [] } in
    rw read (said ∷ [], before, inl (record { says = refl; untold = refl; leaves = refl }), settles-self before, text_of_bare number status.Syntax text texts)

-- an answer that memory was refused
says-out_of_memory : (reading : Reading File) (number : ℕ) (before after : State Name) (text : List ℕ)
    → IsAnswered reading → Settles before after → text ≡ status_line number status.OutOfMemory
    → Says number before reading text after
says-out_of_memory reading number before after text answered settles texts =
    (out_of_memory number ∷ [], before, inr (inr (answered, refl, refl)), settles, text_of_bare number status.OutOfMemory text texts)

-- a line that there is no memory to read, where its answer is written
pub says-unread : {E : Type 0} (r : Result (Unit {0}) E) (reading : Reading File) (number : ℕ)
    (before : State Name) (text : List ℕ)
    → IsAnswered reading
    → OnOk r (text ≡ status_line number status.OutOfMemory)
    → OnOk r (Says number before reading text before)
says-unread (Err refused) reading number before text answered texts = tt
says-unread (Ok done) reading number before text answered texts =
    says-out_of_memory reading number before before text answered (settles-self before) texts

-- ---- calls

-- an accepted call
pub says-ok : (reading : Reading File) (call : Call Name Name) (number : ℕ) (before after : State Name)
    (text : List ℕ)
    → reading ≡ Called call → IsAccepted (named_setting before call after)
    → text ≡ status_line number status.Ok ++ flat_map ended (data_lines_of (on_objects before.environment call))
    → Says number before reading text after
unfolding turn step
says-ok reading call number before after text read accepted texts =
    let said : Answer = record { number = number; status = status.Ok; data_lines = data_lines_of (on_objects before.environment call) } in
    let done : IsDone number before (Called call) (said ∷ []) (left_by bytes_eq before call) = record {
      says = rw (accepted.early, accepted.late) refl;
      untold = rw accepted.early accepted.untold;
      leaves = rw (accepted.early, accepted.late) refl;
    } in
    rw read (said ∷ [], left_by bytes_eq before call, inl done, accepted.left, text_of_one said text texts)

-- one that is not accepted
says-fault : (call : Call Name Name) (number : ℕ) (before after : State Name) (s : Status) (text : List ℕ)
    → Ends {X = Unit {0}} (named_setting before call after) (Err s) → text ≡ status_line number s
    → Says number before (Called call) text after
unfolding turn step
says-fault call number before after s text (inl (inl (early, kept))) texts =
    let said : Answer = record { number = number; status = s; data_lines = [] } in
    let done : IsDone number before (Called call) (said ∷ []) before = record {
      says = rw early refl;
      untold = rw early refl;
      leaves = rw early refl;
    } in
    (said ∷ [], before, inl done, settles-same before after kept, text_of_bare number s text texts)
says-fault call number before after s text (inl (inr (early, late, untold, kept))) texts =
    let said : Answer = record { number = number; status = s; data_lines = [] } in
    let done : IsDone number before (Called call) (said ∷ []) (looked_at bytes_eq before call) = record {
      says = rw (early, late) refl;
      untold = rw early untold;
      leaves = rw (early, late) refl;
    } in
    (said ∷ [], looked_at bytes_eq before call, inl done, settles-same (looked_at bytes_eq before call) after kept, text_of_bare number s text texts)
says-fault call number before after s text (inr (inl (is, early, failed))) texts =
    (invalid_object number ∷ [], after, inr (inl (refl, rw early failed)), settles-self after, text_of_bare number status.InvalidObject text (rw is at texts))
says-fault call number before after s text (inr (inr (is, settles))) texts =
    says-out_of_memory (Called call) number before after text tt settles (rw is at texts)

-- ..where its answer is written
pub says-refused : {E : Type 0} (r : Result (Unit {0}) E) (reading : Reading File) (call : Call Name Name) (number : ℕ)
    (before after : State Name) (s : Status) (text : List ℕ)
    → reading ≡ Called call → Ends {X = Unit {0}} (named_setting before call after) (Err s)
    → OnOk r (text ≡ status_line number s)
    → OnOk r (Says number before reading text after)
says-refused (Err refused) reading call number before after s text read why texts = tt
says-refused (Ok done) reading call number before after s text read why texts =
    rw read (says-fault call number before after s text why texts)

-- an operation that is accepted, which has no data lines, where its answer is written
pub says-operated : {E : Type 0} (r : Result (Unit {0}) E) (reading : Reading File) (out : Out Name)
    (operation : Operation Name) (number : ℕ) (before after : State Name) (text : List ℕ)
    → reading ≡ Called (Operate out operation) → IsAccepted (named_setting before (Operate out operation) after)
    → OnOk r (text ≡ status_line number status.Ok)
    → OnOk r (Says number before reading text after)
unfolding data_lines_of
says-operated (Err refused) reading out operation number before after text read accepted texts = tt
says-operated (Ok done) reading out operation number before after text read accepted texts =
    says-ok reading (Operate out operation) number before after text read accepted
    (texts ∙ sym (append-nil (status_line number status.Ok)))

-- ---- loads

-- an accepted load, where its answer is written
pub says-load : {E : Type 0} (r : Result (Unit {0}) E) (reading : Reading File) (name : Name) (domain : Domain)
    (file : File) (number : ℕ) (before after : State Name) (text : List ℕ)
    → reading ≡ Loads name domain file → EndsAsLoad {X = Unit {0}} before name domain file after (Ok tt)
    → OnOk r (text ≡ status_line number status.Ok)
    → OnOk r (Says number before reading text after)
unfolding turn load
says-load (Err refused) reading name domain file number before after text read ends texts = tt
says-load (Ok done) reading name domain file number before after text read ends texts =
    let said : Answer = record { number = number; status = status.Ok; data_lines = [] } in
    let left = with_mark bytes_eq before (loaded bytes_eq before.environment name domain file) name Unmarked in
    let done : IsDone number before (Loads name domain file) (said ∷ []) left = record {
      says = rw ends.0 refl;
      untold = refl;
      leaves = rw ends.0 refl;
    } in
    rw read (said ∷ [], left, inl done, ends.1, text_of_bare number status.Ok text texts)

-- ..and one that is not accepted
fault-load : (name : Name) (domain : Domain) (file : File) (number : ℕ) (before after : State Name) (s : Status)
    (text : List ℕ) → EndsAsLoad {X = Unit {0}} before name domain file after (Err s) → text ≡ status_line number s
    → Says number before (Loads name domain file) text after
unfolding turn load
fault-load name domain file number before after s text (inl (fault, kept)) texts =
    let said : Answer = record { number = number; status = s; data_lines = [] } in
    let done : IsDone number before (Loads name domain file) (said ∷ []) before = record {
      says = rw fault refl;
      untold = refl;
      leaves = rw fault refl;
    } in
    (said ∷ [], before, inl done, settles-same before after kept, text_of_bare number s text texts)
fault-load name domain file number before after s text (inr (is, settles)) texts =
    says-out_of_memory (Loads name domain file) number before after text tt settles (rw is at texts)

pub refused-load : {E : Type 0} (r : Result (Unit {0}) E) (reading : Reading File) (name : Name) (domain : Domain)
    (file : File) (number : ℕ) (before after : State Name) (s : Status) (text : List ℕ)
    → reading ≡ Loads name domain file → EndsAsLoad {X = Unit {0}} before name domain file after (Err s)
    → OnOk r (text ≡ status_line number s)
    → OnOk r (Says number before reading text after)
refused-load (Err refused) reading name domain file number before after s text read why texts = tt
refused-load (Ok done) reading name domain file number before after s text read why texts =
    rw read (fault-load name domain file number before after s text why texts)

-- ---- answers behind others

-- all of an answer is the rest
pub says-apart : {E : Type 0} (r : Result (Unit {0}) E) (reading : Reading File) (number : ℕ) (before after : State Name)
    (out text : List ℕ) → OnOk r (Says number before reading text after)
    → OnOk r (SaysBehind number before reading out out text after)
says-apart (Err refused) reading number before after out text says = tt
says-apart (Ok done) reading number before after out text says = ([], sym (append-nil out), says)
