-- A run of lines, one after the other.
use Rattle.std.proofs.Common.{◌≡◌, ℕ, ◌+◌, List, [], ◌∷◌, ◌++◌, length, map, take, refl, sym, ◌∙◌, ap, append_assoc, OnOk, Result, Ok, Err}
use Rattle.std.specs.List.{flat_map}
use Rattle.std.proofs.lemmas.Grind.{flat_map-append}
use Rattle.std.proofs.lemmas.List.{append-nil}
use Rattle.std.proofs.Math.Seq.{take-append_seam}
use Rattle.model.specs.Grammar.{Name, Reading, lines_of, reading_of, readings_of}
use Rattle.model.specs.Loads.{Sources, readings_in, with_file}
use Rattle.model.specs.MatrixMarket.{File}
use Rattle.model.specs.Run.{out_of}
use Rattle.model.specs.Marks.{State, first_state}
use Rattle.model.specs.Poisoned.{IsPoisonedRun, Ran}
use Rattle.model.specs.Runs.{TellsOfNoWant}
use Rattle.model.specs.Text.{Answer, answer_text}
use Rattle.model.proofs.RunLaws.{ran-in_bytes}
use Rattle.model.proofs.SettlesLaws.{run-settled, settles-self}
use Rattle.script.specs.Turns.{Says}

-- some lines of the script are answered, and what is written is their answers' texts
pub record IsUnderWay (sources : Sources) (script rest : List ℕ) (state : State Name) (number : ℕ) (old new : List ℕ) : Type 0 where
  pub done : List (Reading File)
  pub answers : List Answer
  pub split : readings_in sources script ≡ done ++ readings_in sources rest
  pub written : new ≡ old ++ flat_map answer_text answers
  pub goes_on : (others : List (Reading File)) (more : List Answer) → IsPoisonedRun number state others more
      → IsPoisonedRun 1 first_state (done ++ others) (answers ++ more)

pub under_way-start : (sources : Sources) (script out : List ℕ) → IsUnderWay sources script script first_state 1 out out
under_way-start sources script out = record {
  done = [];
  answers = [];
  split = refl;
  written = sym (append-nil out);
  goes_on = λ others more h. h;
}

-- one line more, with its answers
pub under_way-turn : (sources : Sources) (script rest others line : List ℕ) (before after : State Name) (number : ℕ)
    (old new text : List ℕ)
    → lines_of rest ≡ line ∷ lines_of others
    → Says number before (with_file sources (reading_of line)) text after
    → IsUnderWay sources script rest before number old new
    → IsUnderWay sources script others after (number + 1) old (new ++ text)
unfolding IsPoisonedRun readings_in readings_of
under_way-turn sources script rest others line before after number old new text first (said, left, turn, settles, texts) way = record {
  done = way.done ++ with_file sources (reading_of line) ∷ [];
  answers = way.answers ++ said;
  split = way.split ∙ ap (λ ls. way.done ++ map (with_file sources) (map reading_of ls)) first ∙ sym (append_assoc way.done (with_file sources (reading_of line) ∷ []) (readings_in sources others));
  written = rw (way.written, texts, flat_map-append answer_text way.answers said) (append_assoc old (flat_map answer_text way.answers) (flat_map answer_text said));
  goes_on = λ lines more h. rw (append_assoc, append_assoc) (way.goes_on (with_file sources (reading_of line) ∷ lines) (said ++ more)
      (before, said, left, more, settles-self before, turn, run-settled (number + 1) left after lines more settles h, refl));
}

-- the lines that are answered are a run of their own
pub ran-so_far : (sources : Sources) (script rest : List ℕ) (state : State Name) (number : ℕ) (old new : List ℕ)
    → IsUnderWay sources script rest state number old new → (n : ℕ) × Ran (take n (readings_in sources script)) old new
unfolding IsPoisonedRun
ran-so_far sources script rest state number old new way =
    let whole = simp append-nil at (way.goes_on [] [] refl) in
    let done : take (length way.done) (readings_in sources script) ≡ way.done = ap (take (length way.done)) way.split ∙ take-append_seam way.done (readings_in sources rest) in
    let ran : Ran way.done old new = record { answers = way.answers; run = whole; written = way.written } in
    (length way.done, rw done ran)

-- once nothing is left, all lines are answered
pub ran-all : (sources : Sources) (script : List ℕ) (state : State Name) (number : ℕ) (old new : List ℕ)
    → IsUnderWay sources script [] state number old new → Ran (readings_in sources script) old new
unfolding IsPoisonedRun lines_of readings_in readings_of
ran-all sources script state number old new way =
    let whole = simp append-nil at (way.goes_on [] [] refl) in
    let all : readings_in sources script ≡ way.done = way.split ∙ append-nil way.done in
    let ran : Ran way.done old new = record { answers = way.answers; run = whole; written = way.written } in
    rw all ran

-- the headline in bytes
pub headline : (sources : Sources) (script old new : List ℕ) → Ran (readings_in sources script) old new
    → (text : List ℕ) → new ≡ old ++ text → TellsOfNoWant text → text ≡ out_of sources script
unfolding out_of
headline sources script old new ran text is none = ran-in_bytes (readings_in sources script) old new ran text is none

-- ..of a run that succeeded
pub headline-where_ok : {E : Type 0} (r : Result (Unit {0}) E) (sources : Sources) (script old new : List ℕ)
    → OnOk r (Ran (readings_in sources script) old new)
    → OnOk r ((text : List ℕ) → new ≡ old ++ text → TellsOfNoWant text → text ≡ out_of sources script)
headline-where_ok (Ok done) sources script old new ran = headline sources script old new ran
headline-where_ok (Err refused) sources script old new ran = tt
