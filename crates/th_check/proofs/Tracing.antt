-- A text is legal exactly where it is the trace of a legal history.
use Rattle.std.proofs.Common.{◌≡◌, ℕ, List, [], ◌∷◌, ◌++◌, map, refl, sym, ap, ◌∙◌, subst, Option, Some, None, arith}
use Rattle.std.proofs.lemmas.Option.{none-some, same_Some}
use Rattle.th_model.specs.BroadcastMachine as broadcast_machine
use Rattle.th_model.specs.BroadcastPicture as broadcast_picture
use Rattle.th_model.specs.WatchMachine as watch_states
use Rattle.th_model.specs.WatchPicture as watch_picture
use Rattle.th_lines.specs.Lines.{Line, Good, Long}
use Rattle.th_log.specs.Machines as machines
use Rattle.th_traces.specs.declared.head.Head.{Head}
use Rattle.th_traces.specs.declared.head.Head.TheVariants as head
use Rattle.th_traces.specs.declared.head.Version.{Version}
use Rattle.th_traces.specs.declared.picture.Picture.{Picture}
use Rattle.th_traces.specs.declared.picture.Picture.TheVariants as picture
use Rattle.th_traces.specs.declared.place.Place.{Place}
use Rattle.th_traces.specs.declared.place.Place.TheVariants.{Nothing}
use Rattle.th_traces.specs.Broadcast as broadcast
use Rattle.th_traces.specs.Watch as watch
use Rattle.th_traces.specs.BroadcastWords as broadcast_words
use Rattle.th_traces.specs.WatchWords as watch_words
use Rattle.th_traces.specs.Pictures as pictures
use Rattle.th_traces.specs.Pictures.{Next, goes_on, leads, step}
use Rattle.th_traces.specs.Spelled.{Bytes, end_line}
use Rattle.th_traces.proofs.BroadcastSpelling as broadcast_spelling
use Rattle.th_traces.proofs.PicturesFound.{pictures-again, pictures-found}
use Rattle.th_traces.proofs.WatchSpelling as watch_spelling
use Rattle.th_check.specs.Histories.{HasHistory, IsTrace, end_point}
use Rattle.th_check.specs.Points.{Point, InPicture, InBroadcast, InWatch, BroadcastStage, WatchStage, Does, ended_with, entries_of, lifted, picture_turn, start, watch_machine, words_of_broadcast, words_of_watch}
use Rattle.th_check.specs.Stages.{CallDue, Ended, Turn, On, Bad, Illegal, Turns}
use Rattle.th_check.specs.Verdicts.{IsLegalText, Leads}
use Rattle.th_check.proofs.Running.{leads-append}
use Rattle.th_check.proofs.Telling as telling
use Rattle.th_check.proofs.Telling.{on_bad, on_illegal, same_on}

no_broadcast_call : (version : Version) (count : ℕ) → broadcast_words.call_of version (end_line count) ≡ None
unfolding broadcast_words.call_of
no_broadcast_call version count = refl

no_watch_call : (count : ℕ) → watch_words.call_of (end_line count) ≡ None
unfolding watch_words.call_of
no_watch_call count = refl

-- where a turn is lifted to a point
module _ (version : Version) (from : broadcast_picture.Picture Bytes) (stage : BroadcastStage) (line : List ℕ) (next : Point) where
  abbrev IsBroadcastOn : Type 0
  IsBroadcastOn =
      (s : BroadcastStage) × Turns machines.broadcast (words_of_broadcast version) stage line (On s) × (next ≡ InBroadcast version from s)

  broadcast_turn : (t : Turn BroadcastStage) → Turns machines.broadcast (words_of_broadcast version) stage line t →
      On next ≡ lifted (InBroadcast version from) t → IsBroadcastOn
  broadcast_turn (On s) t e = (s, t, same_on _ _ e)
  broadcast_turn Bad t e = on_bad next e
  broadcast_turn Illegal t e = on_illegal next e

  broadcast_on : Does (InBroadcast version from stage) (Good line) (On next) → IsBroadcastOn
  broadcast_on d = broadcast_turn d.0 d.1 d.2

module _ (from : watch_picture.Picture Bytes) (stage : WatchStage) (line : List ℕ) (next : Point) where
  abbrev IsWatchOn : Type 0
  IsWatchOn = (s : WatchStage) × Turns watch_machine words_of_watch stage line (On s) × (next ≡ InWatch from s)

  watch_turn : (t : Turn WatchStage) → Turns watch_machine words_of_watch stage line t → On next ≡ lifted (InWatch from) t → IsWatchOn
  watch_turn (On s) t e = (s, t, same_on _ _ e)
  watch_turn Bad t e = on_bad next e
  watch_turn Illegal t e = on_illegal next e

  watch_on : Does (InWatch from stage) (Good line) (On next) → IsWatchOn
  watch_on d = watch_turn d.0 d.1 d.2

-- what is left below a picture tells a history, which leads there
abbrev IsBelow : Head → Picture → List Line → ℕ → Point → Type 0
IsBelow h p lines count there = (left : List Bytes) × (lines ≡ map Good left)
    × (history : HasHistory h p left count) × (there ≡ end_point h p left count history)

-- below a broadcast picture
module _ (version : Version) (p : broadcast_picture.Picture Bytes) where
  abbrev at : BroadcastStage → Point
  at stage = InBroadcast version p stage

  broadcast_below : (lines : List Line) (there : Point) → Leads (at (CallDue (broadcast_picture.whole p) 0)) lines there
      → (count : ℕ) → ended_with there ≡ Some count → IsBelow (head.Broadcast version) (picture.Broadcast p) lines count there
  broadcast_below lines there led count e =
      let state = broadcast_picture.whole p in
      let b =
      telling.lines_below machines.broadcast (words_of_broadcast version)
      (broadcast_words.IsCall version) broadcast_words.IsReplyTo broadcast.call_fields broadcast.reply_fields
      (broadcast_spelling.call_of-found version)
      (broadcast_spelling.call_of-again version) broadcast_spelling.reply_of-found broadcast_spelling.reply_of-again
      (no_broadcast_call version) at (broadcast_on version p) (λ stage line next t. (On next, t, refl)) (λ stage. refl)
      (CallDue state 0) (omega arith) lines there led count e in
      let h =
      telling.history_of machines.broadcast (words_of_broadcast version)
      (broadcast_words.IsCall version) broadcast_words.IsReplyTo broadcast.call_fields broadcast.reply_fields state b.0 count b.2 b.4 in
      (b.0, b.1, h.0, b.3 ∙ ap (λ (s : broadcast_machine.Endless Bytes). at (Ended s count)) (sym h.1))

  broadcast_leads : (lines : List Bytes) (count : ℕ) (h : HasHistory (head.Broadcast version) (picture.Broadcast p) lines count)
      → Leads (at (CallDue (broadcast_picture.whole p) 0)) (map Good lines)
      (end_point (head.Broadcast version) (picture.Broadcast p) lines count h)
  broadcast_leads lines count h = telling.history_leads machines.broadcast (words_of_broadcast version)
      (broadcast_words.IsCall version) broadcast_words.IsReplyTo broadcast.call_fields broadcast.reply_fields
      (broadcast_spelling.call_of-found version)
      (broadcast_spelling.call_of-again version) broadcast_spelling.reply_of-found broadcast_spelling.reply_of-again
      (no_broadcast_call version)
      at (broadcast_on version p) (λ stage line next t. (On next, t, refl)) (λ stage. refl) (broadcast_picture.whole p) lines count h

watch_below : (p : watch_picture.Picture Bytes) (lines : List Line) (there : Point) →
    Leads (InWatch p (CallDue (watch_picture.whole p) 0)) lines there
    → (count : ℕ) → ended_with there ≡ Some count → IsBelow head.Watch (picture.Watch p) lines count there
watch_below p lines there led count e =
    let state = watch_picture.whole p in
    let b = telling.lines_below watch_machine words_of_watch watch_words.IsCall watch_words.IsReplyTo watch.call_fields watch.reply_fields
    watch_spelling.call_of-found watch_spelling.call_of-again watch_spelling.reply_of-found watch_spelling.reply_of-again no_watch_call
    (InWatch p) (watch_on p) (λ stage line next t. (On next, t, refl)) (λ stage. refl)
    (CallDue state 0) (omega arith) lines there led count e in
    let h =
    telling.history_of watch_machine words_of_watch watch_words.IsCall watch_words.IsReplyTo watch.call_fields watch.reply_fields state
    b.0 count b.2 b.4 in
    (b.0, b.1, h.0, b.3 ∙ ap (λ (s : watch_states.Endless Bytes). InWatch p (Ended s count)) (sym h.1))

watch_leads : (p : watch_picture.Picture Bytes) (lines : List Bytes) (count : ℕ) (h : HasHistory head.Watch (picture.Watch p) lines count)
    → Leads (InWatch p (CallDue (watch_picture.whole p) 0)) (map Good lines) (end_point head.Watch (picture.Watch p) lines count h)
watch_leads p lines count h =
    telling.history_leads watch_machine words_of_watch watch_words.IsCall watch_words.IsReplyTo watch.call_fields watch.reply_fields
    watch_spelling.call_of-found watch_spelling.call_of-again watch_spelling.reply_of-found watch_spelling.reply_of-again no_watch_call
    (InWatch p) (watch_on p) (λ stage line next t. (On next, t, refl)) (λ stage. refl) (watch_picture.whole p) lines count h

-- where the entries of a trace lead
abbrev pub end_of : (lines : List Line) (count : ℕ) → IsTrace lines count → Point
end_of lines count t = end_point t.kind t.shown t.below count t.history

-- the lines are a trace, whose entries lead there
abbrev pub LeadsTo : List Line → ℕ → Point → Type 0
LeadsTo lines count there = (t : IsTrace lines count) × (there ≡ end_of lines count t)

-- what is left from a line of a picture on
pub record Drawn (place : Place) (lines : List Line) (count : ℕ) (there : Point) : Type 0 where
  pub front : List Bytes
  pub below : List Bytes
  pub parts : lines ≡ map Good (front ++ below)
  pub kind : Head
  pub shown : Picture
  pub drawn : leads place front ≡ Some (pictures.Begun kind shown)
  pub history : HasHistory kind shown below count
  pub to : there ≡ end_point kind shown below count history

module _ (place : Place) (line : List ℕ) (lines : List Line) (there : Point) (count : ℕ) (e : ended_with there ≡ Some count) where
  -- the entries begin
  begun : (h : Head) (p : Picture) → step place line ≡ Some (pictures.Begun h p) → (next : Point) → On next ≡ entries_of h p →
      Leads next lines there
      → Drawn place (Good line ∷ lines) count there
  begun (head.Broadcast version) (picture.Broadcast p) is next on led =
      let b = broadcast_below version p lines there (subst (λ (x : Point). Leads x lines there) (same_on _ _ on) led) count e in
      record {
        front = line ∷ [];
        below = b.0;
        parts = ap (λ (l : List Line). Good line ∷ l) b.1;
        kind = head.Broadcast version;
        shown = picture.Broadcast p;
        drawn = ap (λ (o : Option Next). goes_on o [] (λ n. leads n [])) is;
        history = b.2;
        to = b.3;
      }
  begun head.Watch (picture.Watch p) is next on led =
      let b = watch_below p lines there (subst (λ (x : Point). Leads x lines there) (same_on _ _ on) led) count e in
      record {
        front = line ∷ [];
        below = b.0;
        parts = ap (λ (l : List Line). Good line ∷ l) b.1;
        kind = head.Watch;
        shown = picture.Watch p;
        drawn = ap (λ (o : Option Next). goes_on o [] (λ n. leads n [])) is;
        history = b.2;
        to = b.3;
      }
  begun (head.Broadcast version) (picture.Watch p) is next on led = on_bad next on
  begun head.Watch (picture.Broadcast p) is next on led = on_bad next on

  one_line : (later : (next : Place) → Leads (InPicture next) lines there → Drawn next lines count there)
      → (o : Option Next) → step place line ≡ o → (next : Point) → On next ≡ picture_turn o → Leads next lines there →
      Drawn place (Good line ∷ lines) count there
  one_line later None is next on led = on_bad next on
  one_line later (Some (pictures.On other)) is next on led =
      let d = later other (subst (λ (x : Point). Leads x lines there) (same_on _ _ on) led) in
      record {
        front = line ∷ d.front;
        below = d.below;
        parts = ap (λ (l : List Line). Good line ∷ l) d.parts;
        kind = d.kind;
        shown = d.shown;
        drawn = ap (λ (o : Option Next). goes_on o d.front (λ n. leads n d.front)) is ∙ d.drawn;
        history = d.history;
        to = d.to;
      }
  one_line later (Some (pictures.Begun h p)) is next on led = begun h p is next on led

picture_lines : (place : Place) (lines : List Line) (there : Point) → Leads (InPicture place) lines there → (count : ℕ) →
    ended_with there ≡ Some count
    → Drawn place lines count there
picture_lines place [] there led count e = absurd (none-some count (ap ended_with (sym led) ∙ e))
picture_lines place (Long ∷ lines) there led count e = on_bad led.0 led.1
picture_lines place (Good line ∷ lines) there led count e =
    one_line place line lines there count e (λ next more. picture_lines next lines there more count e)
    (step place line) refl led.0 led.1 led.2

pub told_to : (lines : List Line) (count : ℕ) (t : IsLegalText lines count) → LeadsTo lines count t.end
told_to lines count t =
    let d = picture_lines Nothing lines t.end t.led count t.ended in (
      record {
        front = d.front;
        below = d.below;
        parts = d.parts;
        kind = d.kind;
        shown = d.shown;
        spelled = pictures-found d.front d.kind d.shown d.drawn;
        history = d.history;
      },
      d.to,
    )

pub told : (lines : List Line) (count : ℕ) → IsLegalText lines count → IsTrace lines count
told lines count t = (told_to lines count t).0

-- and back
module _ (place : Place) (line : Bytes) (front : List Bytes) (h : Head) (p : Picture) (there : Point) (on : entries_of h p ≡ On there) where
  last_line : (h' : Head) (p' : Picture) → step place line ≡ Some (pictures.Begun h' p') → (front : List Bytes)
      → goes_on (Some (pictures.Begun h' p')) front (λ n. leads n front) ≡ Some (pictures.Begun h p) →
      Leads (InPicture place) (map Good (line ∷ front)) there
  last_line h' p' is [] g = (there, sym (ap picture_turn (is ∙ g) ∙ on), refl)
  last_line h' p' is (x ∷ xs) g = absurd (none-some _ g)

  next_line : (later : (next : Place) → leads next front ≡ Some (pictures.Begun h p) → Leads (InPicture next) (map Good front) there)
      → (o : Option Next) → step place line ≡ o → goes_on o front (λ n. leads n front) ≡ Some (pictures.Begun h p) →
      Leads (InPicture place) (map Good (line ∷ front)) there
  next_line later None is g = absurd (none-some _ g)
  next_line later (Some (pictures.On next)) is g = (InPicture next, sym (ap picture_turn is), later next g)
  next_line later (Some (pictures.Begun h' p')) is g = last_line h' p' is front g

abbrev IsBegun : Next → Type 0
IsBegun (pictures.Begun h p) = Unit {0}
IsBegun (pictures.On place) = ⊥

picture_leads : (place : Place) (front : List Bytes) (h : Head) (p : Picture) → leads place front ≡ Some (pictures.Begun h p)
    → (there : Point) → entries_of h p ≡ On there → Leads (InPicture place) (map Good front) there
picture_leads place [] h p d there on = absurd (subst IsBegun (same_Some _ _ (sym d)) tt)
picture_leads place (line ∷ front) h p d there on =
    next_line place line front h p there on (λ next more. picture_leads next front h p more there on) (step place line) refl d

map-good : (xs ys : List Bytes) → map Good (xs ++ ys) ≡ map Good xs ++ map Good ys
map-good [] ys = refl
map-good (x ∷ xs) ys = ap (λ (l : List Line). Good x ∷ l) (map-good xs ys)

module _ (lines : List Line) (count : ℕ) (front below : List Bytes) (parts : lines ≡ map Good (front ++ below)) where
  led_by : (here there : Point) → Leads start (map Good front) here → Leads here (map Good below) there → ended_with there ≡ Some count →
      Leads start lines there × (ended_with there ≡ Some count)
  led_by here there a b e = (
    subst (λ (l : List Line). Leads start l there) (sym (parts ∙ map-good front below))
        (leads-append start here there (map Good front) (map Good below) a b),
    e,
  )

  by_kind : (h : Head) (p : Picture) → leads Nothing front ≡ Some (pictures.Begun h p) → (history : HasHistory h p below count) →
      Leads start lines (end_point h p below count history) × (ended_with (end_point h p below count history) ≡ Some count)
  by_kind (head.Broadcast version) (picture.Broadcast p) d h =
      let here : Point = InBroadcast version p (CallDue (broadcast_picture.whole p) 0) in
      led_by here (end_point (head.Broadcast version) (picture.Broadcast p) below count h)
      (picture_leads Nothing front (head.Broadcast version) (picture.Broadcast p) d here refl)
      (broadcast_leads version p below count h) refl
  by_kind head.Watch (picture.Watch p) d h =
      let here : Point = InWatch p (CallDue (watch_picture.whole p) 0) in
      led_by here (end_point head.Watch (picture.Watch p) below count h)
      (picture_leads Nothing front head.Watch (picture.Watch p) d here refl)
      (watch_leads p below count h) refl
  by_kind (head.Broadcast version) (picture.Watch p) d h = absurd h
  by_kind head.Watch (picture.Broadcast p) d h = absurd h

pub led_to : (lines : List Line) (count : ℕ) (t : IsTrace lines count) → Leads start lines (end_of lines count t)
    × (ended_with (end_of lines count t) ≡ Some count)
led_to lines count t =
    by_kind lines count t.front t.below t.parts t.kind t.shown (pictures-again t.front t.kind t.shown t.spelled) t.history

pub legal : (lines : List Line) (count : ℕ) → IsTrace lines count → IsLegalText lines count
legal lines count t =
    let l = led_to lines count t in record { end = end_of lines count t; led = l.0; ended = l.1 }
