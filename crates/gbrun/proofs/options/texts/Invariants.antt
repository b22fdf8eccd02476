use Rattle.std.proofs.Common.{◌≡◌, All, IsUtf8, map, take}
use Rattle.gbrun.proofs.options.texts.Given as goal

abbrev pub invariant-loop-word : goal.invariant-loop-word
invariant-loop-word l =
    (map (λ text. text.now) l.texts.items ≡ map (λ word. word.items) (take l.word-index l.words))
    × All (λ word. IsUtf8 word.items) (take l.word-index l.words)
