-- What the words ask for is what the line is.
use Rattle.std.proofs.Common.{◌≡◌, false, map, rules, subst, true}
use Rattle.lines.specs.Meaning.{IsRead, reading_in}
use Rattle.model.specs.Grammar.{command_of, is_silent, is_well_formed, words_of}
use Rattle.lines.proofs.LoadLaws.{reads_command, unread}
use Rattle.lines.proofs.parse.parse_line.Goals as goal

pub returns-in_err-add_words : goal.returns-in_err-add_words
returns-in_err-add_words c =
    let loud : is_silent (words_of c.args.line.now) ≡ false = search rules in
    unread c.args.line.now _ c.from_residual.result loud (search rules) c.in_err-add_words.ensures.formed

pub returns-in-Some : goal.returns-in-Some
returns-in-Some c =
    let loud : is_silent (words_of c.args.line.now) ≡ false = search rules in
    let formed : is_well_formed c.args.line.now ≡ true = c.in_ok-add_words.ensures.formed in
    let words : map (λ word. word.now) c.as_slice-words.result.now ≡ words_of c.args.line.now = search rules in
    reads_command c.args.line.now c.joining_command.result loud formed (subst (λ words. IsRead reading_in (command_of words) c.joining_command.result) words c.joining_command.ensures)

pub returns : goal.returns
returns c =
    let loud : is_silent (words_of c.args.line.now) ≡ false = search rules in
    let formed : is_well_formed c.args.line.now ≡ true = c.in_ok-add_words.ensures.formed in
    let words : map (λ word. word.now) c.as_slice-words.result.now ≡ words_of c.args.line.now = search rules in
    reads_command c.args.line.now c.other_command.result loud formed (subst (λ words. IsRead reading_in (command_of words) c.other_command.result) words c.other_command.ensures)
