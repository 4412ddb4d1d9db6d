-- How much a node may weigh, and what a tree's whereabouts keep.
use Rattle.std.specs.Prelude.{ℕ, ◌*◌, ◌^◌, ◌≤◌, min}
use Rattle.nodes.specs.declared.header.Header.{Header}

-- 64 × 16^l, and from level 4 on as much as at level 4
abbrev pub limit_of : ℕ → ℕ
limit_of l = 64 * 16 ^ min l 4

-- the root has a block number, its level is at most 4, and the keys are no more than its level carries
pub record Bounded (h : Header) : Type 0 where
  pub root_low : 1 ≤ h.root.block
  pub root_high : h.root.block ≤ 1_048_575
  pub low : h.root.level ≤ 4
  pub few : h.keys ≤ limit_of h.root.level
