-- What a write leaves as it was. Assumes nothing: these are definitions.
use Rattle.std.specs.Prelude.{◌≡◌, ◌⊎◌, ℕ, ◌+◌, ◌/◌, ◌<◌, ◌≤◌, List, length, slice_index}

-- n is m but for the k units from place p on; byte b is in the unit at place b / 64 + 1
pub record SameBut (m n : List ℕ) (p k : ℕ) : Type 0 where
  pub long : length n ≡ length m
  pub bytes : (b : ℕ) → (b / 64 + 1 < p) ⊎ (p + k ≤ b / 64 + 1) → slice_index n b ≡ slice_index m b
