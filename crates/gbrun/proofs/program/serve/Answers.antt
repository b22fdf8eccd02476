use Rattle.std.proofs.Common.{rules, ◌≡◌, map, All, IsUtf8, inl, inr, subst}
use Rattle.std.specs.Prelude.{Err, Ok}
use Rattle.std.proofs.lemmas.List.Elements.{All-map}
use Rattle.gbrun.specs.CommandLine.{ComesOf, IsRequest, command_line}
use Rattle.clap.specs.Words.{fault_of}
use Rattle.gbrun.specs.Outcomes.{Ends}
use Rattle.gbrun.specs.declared.options.Request.TheVariants.{Print, Run}
use Rattle.gbrun.proofs.Endings.{Any-map, no_text_ends, refused_ends, run_ends, text_ends}
use Rattle.gbrun.proofs.Faults.{passed_on}
use Rattle.gbrun.proofs.program.serve.Goals as goal

pub returns-in_err-texts-clause-ends : goal.returns-in_err-texts-clause-ends
returns-in_err-texts-clause-ends g c =
    passed_on c.from_residual.result c.in_err-texts.field-0.0 (Ends _ _ _ _ _ _) c.from_residual.ensures.1
    (no_text_ends _ _ _ _ _ c.in_err-texts.field-0.0 c.requires (elim c.in_err-texts.ensures.err [
      | inl gone ↦ inl gone
      | inr wrong ↦ inr (wrong.0, Any-map (λ word. ¬ (IsUtf8 word)) _ _ wrong.1)
    ]))

pub returns-in_err-text-clause-ends : goal.returns-in_err-text-clause-ends
returns-in_err-text-clause-ends g c =
    let words = map (λ word. word.items) c.args.words.now in
    let read = map (λ text. text.now) c.as_slice.result.now in
    let fault = c.in_err-text.field-0.0 in
    let same : read ≡ words = search rules in
    let comes : ComesOf read (Err fault) = c.in_err-text.ensures in
    let utf8 : All IsUtf8 words = All-map IsUtf8 _ _ c.in_ok-texts.ensures.utf8 in
    passed_on c.from_residual-in_err-text.result fault (Ends _ _ _ _ _ _) c.from_residual-in_err-text.ensures.1
    (refused_ends _ words _ _ _ fault c.requires utf8 (subst (λ ws. ComesOf ws (Err fault)) same comes))

pub returns-in-Print-clause-ends : goal.returns-in-Print-clause-ends
returns-in-Print-clause-ends g c =
    let read = map (λ text. text.now) c.as_slice.result.now in
    let words = map (λ word. word.items) c.args.words.now in
    let same : read ≡ words = search rules in
    let comes : ComesOf read (Ok (Print c.in-Print.text)) = rw c.in-Print.is at c.in_ok-text.ensures in
    text_ends _ words _ _ _ _ c.print.result c.requires (All-map IsUtf8 _ _ c.in_ok-texts.ensures.utf8, subst (λ ws. IsRequest (fault_of command_line ws)) same comes) c.print.ensures.ends

pub returns-clause-ends : goal.returns-clause-ends
returns-clause-ends g c =
    let read = map (λ text. text.now) c.as_slice.result.now in
    let words = map (λ word. word.items) c.args.words.now in
    let same : read ≡ words = search rules in
    let comes : ComesOf read (Ok (Run c.in-Run.options)) = rw c.in-Run.is at c.in_ok-text.ensures in
    run_ends _ words c.in-Run.options (g.F.FileSource.content c.args.files.now) (g.F.FileSource.readable c.args.files.now) (g.R.Read.remaining c.args.input.now) _ _ _ c.run_script.result
    (All-map IsUtf8 _ _ c.in_ok-texts.ensures.utf8) (subst (λ ws. ComesOf ws (Ok (Run c.in-Run.options))) same comes) c.run_script.ensures.ends
