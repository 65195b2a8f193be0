-- What `Parts` keeps of its image.
use Rattle.std.specs.Prelude.{◌≡◌, ℕ, ◌+◌, ◌≤◌, List, map, length, take, drop, vec_len, Option, IfSome}
use Rattle.std.specs.List.{All}
use Rattle.host_source.specs.Source.{SourceNature, Slot}
use Rattle.image_source.specs.declared.attach.Part.{Part}
use Rattle.image_source.specs.declared.held.Held.{Held}
use Rattle.image_source.specs.declared.parts.TheConstants.{PARTS_MOST}
use Rattle.image_source.specs.Image.{joined, size_of, AreAttached, IsPart}

-- what is attached for a part, and for each of them
abbrev pub slot_of : Part → Slot
slot_of part = record { name = part.name; size = part.size }

abbrev pub slots_of : List Part → List Slot
slots_of parts = map slot_of parts

-- the bytes that are held
abbrev pub held_bytes : Held → List ℕ
held_bytes held = take held.count held.room.items

-- they are those of the image from their place on
abbrev pub AreHeld : List ℕ → Held → Type 0
AreHeld image held = held_bytes held ≡ take held.count (drop held.from image)

-- what is held stands in the room, and is the image's own, where its bytes are told
pub record IsHeldOf (size : ℕ) (bytes : Option (List ℕ)) (held : Held) : Type 0 where
  pub room : held.count ≤ vec_len held.room
  pub end : held.from + held.count ≤ size
  pub told : IfSome bytes (λ image. AreHeld image held)

-- the parts are attached, of so many bytes together, and what is held is of their image
pub record IsInside (nature : SourceNature) (slots : ℕ → Option Slot) (parts : List Part) (size : ℕ) (held : Held) : Type 0 where
  pub most : length parts ≤ PARTS_MOST
  pub attached : AreAttached slots (slots_of parts)
  pub all : All (IsPart nature) (slots_of parts)
  pub sum : size ≡ size_of (slots_of parts)
  pub bytes : IsHeldOf (size_of (slots_of parts)) (joined nature (slots_of parts)) held
