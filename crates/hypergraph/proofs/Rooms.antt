-- What two outputs and a workspace are refused with, by the test of the three rooms.
use Rattle.std.specs.Prelude.{ℕ, true, false, List, [], ◌∷◌, ◌≡◌}
use Rattle.std.proofs.Common.{◌∙◌, length-take-le}
use Rattle.rules.specs.Drawing.{Drawing}
use Rattle.rules.specs.Calls.{drawing_refusal, two_outputs_refusal}
use Rattle.rules.specs.Refusals.{unless, short_room, workspace_need, within, bad_lengths, bad_value}
use Rattle.rules.specs.Inner.Rooms.{rooms_short}
use Rattle.rules.proofs.Facts.Rooms.{three_rooms}
use Rattle.rules.proofs.Facts.Refusing.{first_behind}

module _ (d : Drawing) (need₁ room₁ need₂ room₂ room : ℕ) where
  abbrev checks : List ℕ
  checks = unless (within d) 1 ∷ bad_lengths d ∷ bad_value d ∷ []

  abbrev rooms : List ℕ
  rooms = short_room need₁ room₁ ∷ short_room need₂ room₂ ∷ short_room (workspace_need d) room ∷ []

  -- a room is too short
  pub short_rooms : drawing_refusal d ≡ 0 → rooms_short need₁ room₁ need₂ room₂ (workspace_need d) room ≡ true → two_outputs_refusal d need₁ room₁ need₂ room₂ room ≡ 11
  unfolding drawing_refusal two_outputs_refusal
  short_rooms e f = first_behind checks rooms e ∙ (three_rooms need₁ room₁ need₂ room₂ (workspace_need d) room).yes f

  -- each is long enough
  pub long_rooms : drawing_refusal d ≡ 0 → rooms_short need₁ room₁ need₂ room₂ (workspace_need d) room ≡ false → two_outputs_refusal d need₁ room₁ need₂ room₂ room ≡ 0
  unfolding drawing_refusal two_outputs_refusal
  long_rooms e f = first_behind checks rooms e ∙ (three_rooms need₁ room₁ need₂ room₂ (workspace_need d) room).no f

pub ruleset room_laws = (short_rooms, long_rooms, length-take-le)
