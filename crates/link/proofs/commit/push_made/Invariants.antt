use Rattle.std.proofs.Common.{◌≡◌, ◌+◌, ◌≤◌, vec_len, vec_capacity}
use Rattle.link.proofs.commit.push_made.Given as goal

abbrev pub invariant-loop-x : goal.invariant-loop-x
invariant-loop-x g l =
    (vec_len l.into ≤ vec_len l.initial.into + l.x-index)
    × (vec_capacity l.into ≡ vec_capacity l.initial.into)
