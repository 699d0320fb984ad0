-- The live handles of a picture of either kind, as its lines tell them (docs/FORMATS.md, "Traces").
use Rattle.std.specs.Prelude.{ℕ, Bool, List, [], ◌∷◌, codes, length, not, ◌==◌, ◌&&◌, Option}
use Rattle.std.specs.Map.{keys_of}
use Rattle.th_model.specs.Handles.{is_sender, with_sender}
use Rattle.th_model.specs.WatchMachine.{Kept, with_reader}
use Rattle.th_lines.specs.Fields.{Rest, by_word, ended, field_then, number_last}
use Rattle.th_traces.specs.Drafts.{More, Tells, Whole, allowed}
use Rattle.th_traces.specs.Groups.{is_further}
use Rattle.th_traces.specs.Tables.{Table}

-- the live senders, the live receivers with how each stands, and the next handle number
pub record Live (X : Type 0) : Type 0 where
  pub senders : List ℕ
  pub receivers : Kept X
  pub next : ℕ

-- `NEXT next`
abbrev pub next_last : Rest → Option ℕ
next_last = field_then (by_word ((codes "NEXT", number_last (λ next. next)) ∷ []))

module _ {X : Type 0} where
  abbrev pub live : List ℕ → Kept X → ℕ → Live X
  live senders receivers next = record { senders = senders; receivers = receivers; next = next }

  -- the values come first, then the senders, then the receivers
  abbrev pub takes_sender : (has_values : Bool) → Live X → ℕ → Bool
  takes_sender has_values h tx =
      has_values && ((length h.receivers == 0) && is_further h.next h.senders tx)

  abbrev pub takes_receiver : (has_values : Bool) → Live X → ℕ → Bool
  takes_receiver has_values h rx =
      has_values && (is_further h.next (keys_of h.receivers) rx && not (is_sender h.senders rx))

  abbrev pub with_tx : Live X → ℕ → Live X
  with_tx h tx = record h { senders = with_sender h.senders tx }

  abbrev pub with_rx : Live X → ℕ × X → Live X
  with_rx h rx = record h { receivers = with_reader h.receivers rx.0 rx.1 }

  -- what the lines below that of the start tell, where `put` puts the handles into the picture
  module _ {P : Type 0} (put : Live X → P) (has_values : Bool) (h : Live X) where
    abbrev pub sender_field : Rest → Option (Tells P)
    sender_field rest =
        allowed (takes_sender has_values h) (λ tx. More (put (with_tx h tx)))
        (number_last (λ tx. tx) rest)

    abbrev pub receiver_fields : Option (ℕ × X) → Option (Tells P)
    receiver_fields fields =
        allowed (λ (rx : ℕ × X). takes_receiver has_values h rx.0)
        (λ rx. More (put (with_rx h rx))) fields

    abbrev pub table : (value_field : Rest → Option (Tells P)) → (receiver : Rest → Option (ℕ × X))
        → (is_whole : Bool) → Table (Tells P)
    table value_field receiver is_whole =
        (codes "KEEP", value_field)
        ∷ (codes "TX", sender_field)
        ∷ (codes "RX", λ rest. receiver_fields (receiver rest))
        ∷ (codes "BEGIN", λ rest. allowed (λ w. is_whole) (λ w. w) (ended Whole rest))
        ∷ []
