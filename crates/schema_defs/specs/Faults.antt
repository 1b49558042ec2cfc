-- What it is for a count of faults to rise: a judge of texts counts where it fails, and so do a source and a sink.
use Rattle.std.specs.Prelude.{◌≡◌, ℕ, ◌-◌, ◌^◌, ◌<◌, ◌⊎◌}

-- a count rose, or stands at the end of a count of 64 bits
abbrev pub Rises : ℕ → ℕ → Type 0
Rises old new = (old < new) ⊎ (new ≡ 2 ^ 64 - 1)
