-- What follows where a line tells that a picture is whole.
use Rattle.std.proofs.Common.{◌≡◌, ℕ, Bool, true, false, List, refl, ap, subst, Option, Some, None, cond, Err}
use Rattle.std.specs.Prelude.{codes, is_some, not}
use Rattle.std.specs.Option.{IsSome, option_map}
use Rattle.std.proofs.lemmas.Bool.{false≢true}
use Rattle.std.proofs.lemmas.Option.{none-some, same_Some}
use Rattle.th_lines.specs.Fields.{Rest, ended, number_last, value_last}
use Rattle.th_lines.specs.declared.fault.LineFault.{LineFault}
use Rattle.th_lines.specs.declared.fault.LineFault.TheVariants.{BadLine, Short}
use Rattle.th_lines.proofs.Grammar.{Finds, table-finds}
use Rattle.th_lines.proofs.Tables.{◌&◌}
use Rattle.th_traces.specs.Spelled.{Bytes}
use Rattle.th_traces.specs.Drafts.{More, TakesLine, Tells, Whole, allowed}
use Rattle.th_traces.specs.LiveHandles.{Live, table, takes_receiver, takes_sender, with_rx, with_tx}
use Rattle.th_traces.specs.BroadcastDrafts as broadcast
use Rattle.th_traces.specs.WatchDrafts as watch
use Rattle.th_traces.specs.Tables.{Table, by_table}
use Rattle.th_traces.specs.Pictures.{ReadsLine, if_told, step, watch_next, whole_watch}
use Rattle.th_traces.specs.declared.place.Place.TheVariants.{InWatch}
use Rattle.th_traces.proofs.Entries.{by_table-found}

pub allowed-found : {A B : Type 0} (may : A → Bool) (tells : A → B) (o : Option A) (b : B) → allowed may tells o ≡ Some b → (a : A)
    × (o ≡ Some a) × (may a ≡ true) × (tells a ≡ b)
allowed-found may tells None b h = absurd (none-some b h)
allowed-found may tells (Some a) b h = at (may a) refl h
  where
    at : (t : Bool) → may a ≡ t → cond t (Some (tells a)) None ≡ Some b → (c : _) × (Some a ≡ Some c) × (may c ≡ true) × (tells c ≡ b)
    at true e k = (a, refl, e, same_Some _ _ k)
    at false e k = absurd (none-some b k)

module _ {P : Type 0} (so : Type 0) where
  -- so it is, where a line tells that the picture is whole
  abbrev IfWhole : List ℕ → Tells P → Type 0
  IfWhole bytes told = told ≡ Whole → so

  more-finds : {A : Type 0} (word : Bytes) (may : A → Bool) (tells : A → P) (read : Rest → Option A) →
      Finds IfWhole (word, λ rest. allowed may (λ a. More (tells a)) (read rest))
  more-finds word may tells read rest a h whole =
      let f = allowed-found may (λ a. More (tells a)) (read rest) a h in
      let e : More (tells f.0) ≡ Whole = subst (λ (t : Tells P). More (tells f.0) ≡ t) whole f.3 in
      absurd (no_more (tells f.0) e)
    where
      no_more : (p : P) → More p ≡ Whole → ⊥
      no_more p e = cc

-- what the lines below the start tell, where a value is no whole picture
table-whole : {X P A : Type 0} (put : Live X → P) (has_values : Bool) (h : Live X) (may : A → Bool) (tells : A → P)
    (value : Rest → Option A)
    (receiver : Rest → Option (ℕ × X)) (is_whole : Bool) (line : List ℕ) →
    by_table (table put has_values h (λ rest. allowed may (λ a. More (tells a)) (value rest)) receiver is_whole) line ≡ Some Whole →
    is_whole ≡ true
table-whole {X} {P} {A} put has_values h may tells value receiver is_whole line e = by_table-found IsSo lines (table-finds IsSo lines (
    more-finds so (codes "KEEP") may tells value
    & more-finds so (codes "TX") (takes_sender has_values h) (λ (tx : ℕ). put (with_tx h tx)) (number_last (λ (tx : ℕ). tx))
    & more-finds so (codes "RX") (λ (rx : ℕ × X). takes_receiver has_values h rx.0) (λ (rx : ℕ × X). put (with_rx h rx)) receiver
    & (λ rest a k whole. (allowed-found (λ (w : Tells P). is_whole) (λ w. w) (ended Whole rest) a k).2)
    & tt
    )) line Whole e refl
  where
    so : Type 0
    so = is_whole ≡ true

    IsSo : List ℕ → Tells P → Type 0
    IsSo = IfWhole so

    lines : Table (Tells P)
    lines = table put has_values h (λ rest. allowed may (λ a. More (tells a)) (value rest)) receiver is_whole

pub broadcast-whole : (p : broadcast.Drawn) (line : List ℕ) → by_table (broadcast.body p) line ≡ Some Whole → broadcast.is_whole p ≡ true
unfolding broadcast.body
broadcast-whole p line h =
    table-whole (broadcast.with_handles p) (broadcast.has_values p) (broadcast.handles p) (λ (v : Bytes). broadcast.takes_value p)
    (broadcast.with_value p)
    (value_last (λ (v : Bytes). v)) (broadcast.place_last p) (broadcast.is_whole p) line h

pub watch-whole : (p : watch.Sketch) (line : List ℕ) → by_table (watch.body p) line ≡ Some Whole → watch.has_value p ≡ true
unfolding watch.body
watch-whole p line h =
    table-whole (watch.with_handles p) (watch.has_value p) (watch.handles p) (λ (v : Bytes). not (watch.has_value p)) (watch.with_value p)
    (value_last (λ (v : Bytes). v)) watch.reader_last (watch.has_value p) line h

-- a fault leaves the draft of a watch picture as it was
pub watch-fault : (fault : LineFault) (old new : watch.Sketch) (line : List ℕ) →
    TakesLine (Err fault) old new (by_table (watch.body old) line) →
    ReadsLine (Err fault) (InWatch old) (InWatch new) (step (InWatch old) line)
unfolding step
watch-fault BadLine old new line h = (ap (λ (o : Option (Tells watch.Sketch)). if_told (watch_next old) o) h.0, ap InWatch h.1)
watch-fault Short old new line h = (some (by_table (watch.body old) line) refl h.0, ap InWatch h.1)
  where
    there : (o : Option Bytes) → is_some o ≡ true → IsSome (option_map (whole_watch old) o)
    there None e = absurd (false≢true e)
    there (Some v) e = refl

    some : (o : Option (Tells watch.Sketch)) → by_table (watch.body old) line ≡ o → IsSome o → IsSome (if_told (watch_next old) o)
    some None e s = absurd (false≢true s)
    some (Some (More q)) e s = refl
    some (Some Whole) e s = there old.last (watch-whole old line e)
