-- Soundings: what a definition gives on an example that is written out, and what is wanted of it. They are held together by computing alone.
-- Nothing here is a rule of the tool: examples of its rules are written with it.
use Rattle.std.specs.Prelude.{ℕ, List, map, ◌≡◌}

pub record Sounding : Type 0 where
  pub given : List ℕ
  pub wanted : List ℕ

infix 30 ◌reads◌
abbrev pub ◌reads◌ : List ℕ → List ℕ → Sounding
given reads wanted = record { given = given; wanted = wanted }

-- Every sounding of a list gives what is wanted.
abbrev pub Hold : List Sounding → Type 0
Hold soundings = map (λ (s : Sounding). s.given) soundings ≡ map (λ (s : Sounding). s.wanted) soundings
