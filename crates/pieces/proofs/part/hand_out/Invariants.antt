use Rattle.std.proofs.Common.{◌≡◌, ◌++◌, ◌≤◌, drop, length, replicate, take}
use Rattle.std.specs.Prelude.{vec_capacity, vec_len}
use Rattle.pieces.specs.declared.part.Part.TheVariants.{Joined}
use Rattle.pieces.specs.Parts.{blocks_in}
use Rattle.pieces.proofs.part.hand_out.Given as goal

-- what the parts were up to here is handed out
abbrev pub invariant-loop-place : goal.invariant-loop-place
invariant-loop-place l = record {
  blocks : l.blocks.items ≡ blocks_in (take l.place l.fn.parts);
  joined : l.parts ≡ replicate l.place Joined ++ drop l.place l.fn.parts;
  room : length l.fn.parts ≤ vec_capacity l.blocks;
  within : vec_len l.blocks ≤ l.place;
}
