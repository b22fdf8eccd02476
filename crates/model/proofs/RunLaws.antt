-- Whether memory was wanting in a run can be seen in what is written: where it wasn't, these are the bytes of the run in
-- which each call is done at once.
use Rattle.std.proofs.Common.{◌≡◌, ◌≢◌, ℕ, List, [], ◌∷◌, ◌++◌, refl, sym, subst, ◌∙◌, ap, append_assoc}
use Rattle.std.specs.Prelude.{codes, decimal}
use Rattle.std.specs.List.{flat_map}
use Rattle.std.proofs.lemmas.List.{append_cancel_left}
use Rattle.std.proofs.lemmas.List.Elements.{All-cons, All-nil}
use Rattle.model.specs.declared.status.Status.{Status}
use Rattle.model.specs.declared.status.Status.TheVariants.{InvalidObject, OutOfMemory}
use Rattle.model.specs.Grammar.{Reading}
use Rattle.model.specs.MatrixMarket.{File}
use Rattle.model.specs.Poisoned.{Ran}
use Rattle.model.specs.Run.{out_of_readings}
use Rattle.model.specs.Runs.{HadMemory, HasWord, TellsOfNoWant}
use Rattle.model.specs.Text.{Answer, answer_text, ended, status_name}
use Rattle.model.proofs.PoisonedLaws.{poisoned-at_once}

abbrev IsNoWant : Answer → Type 0
IsNoWant a = (a.status ≢ OutOfMemory) × (a.status ≢ InvalidObject)

-- ---- in bytes

word_behind : (word before text : List ℕ) → HasWord word text → HasWord word (before ++ text)
word_behind word before text (front, back, is) = (before ++ front, back, rw (is, append_assoc) refl)

-- the text of an answer has the name of its status
status_in_text : (a : Answer) (rest : List ℕ) → HasWord (status_name a.status) (answer_text a ++ rest)
unfolding answer_text
status_in_text a rest =
    (decimal a.number ++ 32 ∷ [], 10 ∷ (flat_map ended a.data_lines ++ rest), simp append_assoc)

-- where the bytes tell of no want of memory, no answer does
had_memory : (answers : List Answer) → TellsOfNoWant (flat_map answer_text answers) → HadMemory answers
had_memory [] none = All-nil IsNoWant
had_memory (a ∷ answers) none =
    let later = flat_map answer_text answers in
    let here : (s : Status) → a.status ≡ s → HasWord (status_name s) (answer_text a ++ later) = λ s is. subst (λ (t : Status). HasWord (status_name t) (answer_text a ++ later)) is (status_in_text a later) in
    let others : TellsOfNoWant later = record {
      no_refusal = λ has. none.no_refusal (word_behind (codes "OUT_OF_MEMORY") (answer_text a) later has);
      no_failure = λ has. none.no_failure (word_behind (codes "INVALID_OBJECT") (answer_text a) later has);
    } in
    All-cons IsNoWant a answers (λ is. none.no_refusal (here OutOfMemory is), λ is. none.no_failure (here InvalidObject is)) (had_memory answers others)

-- where no answer tells of want of memory, a run wrote what the lines' calls give when each is done at once
pub ran-at_once : (readings : List (Reading File)) (old new : List ℕ) (ran : Ran readings old new)
    → HadMemory ran.answers → new ≡ old ++ out_of_readings readings
unfolding out_of_readings
ran-at_once readings old new ran had =
    ran.written ∙ ap (λ all. old ++ flat_map answer_text all) (poisoned-at_once readings ran.answers ran.run had)

-- ..and so it did where what it wrote tells of none
pub ran-in_bytes : (readings : List (Reading File)) (old new : List ℕ) → Ran readings old new
    → (text : List ℕ) → new ≡ old ++ text → TellsOfNoWant text → text ≡ out_of_readings readings
ran-in_bytes readings old new ran text is none =
    let same : text ≡ flat_map answer_text ran.answers = append_cancel_left old text (flat_map answer_text ran.answers) (sym is ∙ ran.written) in
    let had = had_memory ran.answers (rw same at none) in
    append_cancel_left old text (out_of_readings readings) (sym is ∙ ran-at_once readings old new ran had)
