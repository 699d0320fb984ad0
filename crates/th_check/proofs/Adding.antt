-- Texts that are added one after the other are one legal history.
use Rattle.std.proofs.Common.{◌≡◌, ◌∙◌, ◌⊎◌, inl, inr, ℕ, Bool, List, [], ◌∷◌, ◌++◌, length, map, refl, sym, ap, subst, Option, Some, None, arith, length-append}
use Rattle.std.proofs.lemmas.Option.{none-some, same_Some}
use Rattle.th_model.specs.BroadcastMachine as bm
use Rattle.th_model.specs.BroadcastPicture as bp
use Rattle.th_model.specs.WatchMachine as wm
use Rattle.th_model.specs.WatchPicture as wp
use Rattle.th_lines.specs.Lines.{Line, Good}
use Rattle.th_log.specs.History.{Machine, Piece, IsLegal, joined, piece_of}
use Rattle.th_log.specs.History.{end_of as end_state}
use Rattle.th_log.specs.Machines as machines
use Rattle.th_log.specs.MachineLaws.{broadcast-whole, broadcast-step, broadcast-answer, watch-whole, watch-step, watch-answer}
use Rattle.th_log.proofs.Grows.{legal-joined}
use Rattle.th_traces.specs.declared.head.Head.{Head}
use Rattle.th_traces.specs.declared.head.Head.TheVariants as head
use Rattle.th_traces.specs.declared.head.Version.TheVariants.{One}
use Rattle.th_traces.specs.declared.picture.Picture.{Picture}
use Rattle.th_traces.specs.declared.picture.Picture.TheVariants as picture
use Rattle.th_traces.specs.Shown.{Spells}
use Rattle.th_traces.specs.Spelled.{Bytes}
use Rattle.th_check.specs.Histories.{HasHistory, IsTrace, end_point}
use Rattle.th_check.specs.Joined.{AreAdded, AreOne, BeginsAt, BroadcastPiece, IsBroadcastHistory, IsOneHistory, IsPart, IsSoundPicture, IsWatchHistory, Part, Reach, TellsBroadcast, TellsWatch, WatchPiece, is_opening, part_at, part_of, reach_by}
use Rattle.th_check.specs.Points.{Point, InPicture, InBroadcast, InWatch, ended_with, watch_machine}
use Rattle.th_check.specs.Stages.{CallDue, ReplyDue, Ended}
use Rattle.th_check.proofs.Tracing.{led_to, told_to}

-- a part that has ended has as many entries as were counted
pub counts : (here : Point) (part : Part) → part_at here ≡ Some part → ended_with here ≡ Some part.count
counts (InPicture place) part e = absurd (none-some part e)
counts (InBroadcast version from (CallDue state n)) part e = absurd (none-some part e)
counts (InBroadcast version from (ReplyDue state n call)) part e = absurd (none-some part e)
counts (InBroadcast version from (Ended state n)) part e = ap (λ (p : Part). Some p.count) (same_Some _ part e)
counts (InWatch from (CallDue state n)) part e = absurd (none-some part e)
counts (InWatch from (ReplyDue state n call)) part e = absurd (none-some part e)
counts (InWatch from (Ended state n)) part e = ap (λ (p : Part). Some p.count) (same_Some _ part e)

-- and where entries were counted a part has ended
pub ended_part : (here : Point) (count : ℕ) → ended_with here ≡ Some count →
    (part : Part) × (part_at here ≡ Some part) × (part.count ≡ count)
ended_part (InPicture place) count e = absurd (none-some count e)
ended_part (InBroadcast version from (CallDue state n)) count e = absurd (none-some count e)
ended_part (InBroadcast version from (ReplyDue state n call)) count e = absurd (none-some count e)
ended_part (InBroadcast version from (Ended state n)) count e =
    (record { from = picture.Broadcast from; count = n; to = picture.Broadcast (bp.see state) }, refl, same_Some n count e)
ended_part (InWatch from (CallDue state n)) count e = absurd (none-some count e)
ended_part (InWatch from (ReplyDue state n call)) count e = absurd (none-some count e)
ended_part (InWatch from (Ended state n)) count e =
    (record { from = picture.Watch from; count = n; to = picture.Watch (wp.see state) }, refl, same_Some n count e)

-- what a part is, by the pieces of a kind
abbrev IsPieceOf : {S C R : Type 0} → (S → Picture) → (List Line → Piece S C R → Type 0) → List Line → Part → Type 0
IsPieceOf {S} {C} {R} shows Tells lines part = (piece : Piece S C R) × Tells lines piece × (part ≡ part_of shows piece)

abbrev IsPieceOfEither : List Line → Part → Type 0
IsPieceOfEither lines part =
    IsPieceOf picture.Broadcast TellsBroadcast lines part ⊎ IsPieceOf picture.Watch TellsWatch lines part

module _ (lines : List Line) (part : Part) (front below : List Bytes) (parts : lines ≡ map Good (front ++ below))
    (sound : IsSoundPicture part.from) where
  by_kind : (h : Head) (p : Picture) → Spells h p front → (count : ℕ) (history : HasHistory h p below count)
      → part_at (end_point h p below count history) ≡ Some part → IsPieceOfEither lines part
  by_kind (head.Broadcast version) (picture.Broadcast p) spelled count history e =
      let is = same_Some _ part e in
      let last : bp.Picture Bytes = bp.see (end_state machines.broadcast (bp.whole p) history.entries) in
      let piece : BroadcastPiece = piece_of 0 0 p history.entries last in
      inl (
        piece,
        record {
          front = front;
          below = below;
          parts = parts;
          version = version;
          spelled = spelled;
          legal = record { sound = subst IsSoundPicture (ap (λ (q : Part). q.from) (sym is)) sound; run = history.run; end = refl };
          each = history.each;
          told = rw history.counted history.told;
          most = omega (arith, history.counted, history.most);
        },
        sym is ∙ ap (λ (n : ℕ). record { from = picture.Broadcast p; count = n; to = picture.Broadcast last }) (sym history.counted),
      )
  by_kind head.Watch (picture.Watch p) spelled count history e =
      let is = same_Some _ part e in
      let last : wp.Picture Bytes = wp.see (end_state watch_machine (wp.whole p) history.entries) in
      let piece : WatchPiece = piece_of 0 0 p history.entries last in
      inr (
        piece,
        record {
          front = front;
          below = below;
          parts = parts;
          version = One;
          spelled = spelled;
          legal = record { sound = subst IsSoundPicture (ap (λ (q : Part). q.from) (sym is)) sound; run = history.run; end = refl };
          each = history.each;
          told = rw history.counted history.told;
          most = omega (arith, history.counted, history.most);
        },
        sym is ∙ ap (λ (n : ℕ). record { from = picture.Watch p; count = n; to = picture.Watch last }) (sym history.counted),
      )
  by_kind (head.Broadcast version) (picture.Watch p) spelled count history e = absurd history
  by_kind head.Watch (picture.Broadcast p) spelled count history e = absurd history

piece_told : (lines : List Line) (part : Part) → IsPart lines part → IsPieceOfEither lines part
piece_told lines part is =
    let t = told_to lines part.count (record { end = is.end; led = is.led; ended = counts is.end part is.is }) in
    by_kind lines part t.0.front t.0.below t.0.parts is.sound t.0.kind t.0.shown t.0.spelled part.count t.0.history
    (ap part_at (sym t.1) ∙ is.is)

-- and back
broadcast_told : (lines : List Line) (piece : BroadcastPiece) → TellsBroadcast lines piece → IsPart lines (part_of picture.Broadcast piece)
broadcast_told lines piece t =
    let trace : IsTrace lines (length piece.entries) = record {
      front = t.front;
      below = t.below;
      parts = t.parts;
      kind = head.Broadcast t.version;
      shown = picture.Broadcast piece.start;
      spelled = t.spelled;
      history = record {
        entries = piece.entries;
        run = t.legal.run;
        each = t.each;
        told = t.told;
        counted = refl;
        most = t.most;
      };
    } in
    record {
      end = end_point trace.kind trace.shown trace.below (length piece.entries) trace.history;
      led = (led_to lines (length piece.entries) trace).0;
      is = ap
          (λ (q : bp.Picture Bytes).
          Some (record { from = picture.Broadcast piece.start; count = length piece.entries; to = picture.Broadcast q })) t.legal.end;
      sound = t.legal.sound;
    }

watch_told : (lines : List Line) (piece : WatchPiece) → TellsWatch lines piece → IsPart lines (part_of picture.Watch piece)
watch_told lines piece t =
    let trace : IsTrace lines (length piece.entries) = record {
      front = t.front;
      below = t.below;
      parts = t.parts;
      kind = head.Watch;
      shown = picture.Watch piece.start;
      spelled = t.spelled;
      history = record {
        entries = piece.entries;
        run = t.legal.run;
        each = t.each;
        told = t.told;
        counted = refl;
        most = t.most;
      };
    } in
    record {
      end = end_point trace.kind trace.shown trace.below (length piece.entries) trace.history;
      led = (led_to lines (length piece.entries) trace).0;
      is = ap
          (λ (q : wp.Picture Bytes).
          Some (record { from = picture.Watch piece.start; count = length piece.entries; to = picture.Watch q })) t.legal.end;
      sound = t.legal.sound;
    }

-- pictures of different kinds differ
abbrev IsOfBroadcast : Picture → Type 0
IsOfBroadcast (picture.Broadcast p) = Unit {0}
IsOfBroadcast (picture.Watch p) = ⊥

abbrev broadcast_or : bp.Picture Bytes → Picture → bp.Picture Bytes
broadcast_or d (picture.Broadcast p) = p
broadcast_or d (picture.Watch p) = d

abbrev watch_or : wp.Picture Bytes → Picture → wp.Picture Bytes
watch_or d (picture.Watch p) = p
watch_or d (picture.Broadcast p) = d

-- a part that begins with such a picture, as a piece of that kind
abbrev IsPieceFrom : {S C R : Type 0} → (S → Picture) → (List Line → Piece S C R → Type 0) → List Line → Part → S → Type 0
IsPieceFrom {S} {C} {R} shows Tells lines part q =
    (piece : Piece S C R) × Tells lines piece × (part ≡ part_of shows piece) × (piece.start ≡ q)

broadcast_from : (lines : List Line) (part : Part) (q : bp.Picture Bytes) → IsPart lines part → part.from ≡ picture.Broadcast q →
    IsPieceFrom picture.Broadcast TellsBroadcast lines part q
broadcast_from lines part q is e = elim (piece_told lines part is) [
  | inl b ↦ (b.0, b.1, b.2, ap (broadcast_or q) (ap (λ (p : Part). p.from) (sym b.2) ∙ e))
  | inr w ↦ absurd (subst IsOfBroadcast (sym e ∙ ap (λ (p : Part). p.from) w.2) tt)
]

watch_from : (lines : List Line) (part : Part) (q : wp.Picture Bytes) → IsPart lines part → part.from ≡ picture.Watch q →
    IsPieceFrom picture.Watch TellsWatch lines part q
watch_from lines part q is e = elim (piece_told lines part is) [
  | inl b ↦ absurd (subst IsOfBroadcast (ap (λ (p : Part). p.from) (sym b.2) ∙ e) tt)
  | inr w ↦ (w.0, w.1, w.2, ap (watch_or q) (ap (λ (p : Part). p.from) (sym w.2) ∙ e))
]

-- texts of one kind
module _ {E S C R : Type 0} (m : Machine E S C R) (proper : E → Type 0) (sound : S → Type 0) (shows : S → Picture)
    (Tells : List Line → Piece S C R → Type 0)
    (whole : (p : S) → sound p → proper (m.whole p) × (m.see (m.whole p) ≡ p))
    (stays : (e : E) (c : C) → proper e → proper (m.step e c).1)
    (answer : (e : E) (c : C) → proper e → m.answer (m.see e) c ≡ ((m.step e c).0, m.see (m.step e c).1))
    (legal : (lines : List Line) (piece : Piece S C R) → Tells lines piece → IsLegal m sound piece)
    (part_from : (lines : List Line) (part : Part) (q : S) → IsPart lines part → part.from ≡ shows q → IsPieceFrom shows Tells lines part q)
    (told : (lines : List Line) (piece : Piece S C R) → Tells lines piece → IsPart lines (part_of shows piece)) where
  all_legal : (texts : List (List Line)) (p : Piece S C R) → AreOne Tells texts p → IsLegal m sound p
  all_legal [] p j = absurd j
  all_legal (text ∷ []) p t = legal text p t
  all_legal (text ∷ next ∷ later) p j =
      subst (λ (q : Piece S C R). IsLegal m sound q) (sym j.5)
      (legal-joined m proper sound whole stays answer j.0 j.1 (legal text j.0 j.2) (all_legal (next ∷ later) j.1 j.3) j.4)

  -- a history that has come to such a picture
  abbrev at : Bool → S → Option Reach
  at opened q = Some (record { is_opened = opened; end = shows q })

  -- what is left of a history from a picture on
  abbrev IsChain : Bool → S → List (List Line) → ℕ → Option Reach → Type 0
  IsChain opened q texts count there = (w : Piece S C R) × AreOne Tells texts w × (w.start ≡ q) × (length w.entries ≡ count)
      × (there ≡ at opened w.last)

  -- where a part leads
  led_by : (opened : Bool) (q : S) (part : Part) (piece : Piece S C R) → part ≡ part_of shows piece
      → Some (reach_by (at opened q) part.from part.to) ≡ at opened piece.last
  led_by opened q part piece e = ap (λ (p : Part). Some (reach_by (at opened q) p.from p.to)) e

  chain : (opened : Bool) (q : S) (text : List Line) (later : List (List Line)) (count : ℕ) (there : Option Reach)
      → AreAdded (at opened q) (text ∷ later) count there → IsChain opened q (text ∷ later) count there
  chain opened q text [] count there (next, one, rest, adds, done, counted) =
      let k = part_from text adds.part q adds.is adds.begins in (
        k.0,
        k.1,
        k.3,
        omega (arith, ap (λ (p : Part). p.count) k.2, adds.counted, counted, done.0),
        done.1 ∙ adds.ends ∙ led_by opened q adds.part k.0 k.2,
      )
  chain opened q text (other ∷ later) count there (next, one, rest, adds, added, counted) =
      let k = part_from text adds.part q adds.is adds.begins in
      let r = chain opened k.0.last other later rest there
      (subst (λ (n : Option Reach). AreAdded n (other ∷ later) rest there) (adds.ends ∙ led_by opened q adds.part k.0 k.2) added) in (
        joined k.0 r.0,
        (k.0, r.0, k.1, r.1, sym r.2, refl),
        k.3,
        omega (arith, length-append k.0.entries r.0.entries, ap (λ (p : Part). p.count) k.2, adds.counted, counted, r.3),
        r.4,
      )

  one_history : (q : S) (text : List Line) (later : List (List Line)) (count : ℕ) (there : Option Reach)
      → AreAdded (at (is_opening (shows q)) q) (text ∷ later) count there → IsOneHistory m sound shows Tells (text ∷ later) count there
  one_history q text later count there added =
      let k = chain (is_opening (shows q)) q text later count there added in
      record {
        whole = k.0;
        one = k.1;
        legal = all_legal (text ∷ later) k.0 k.1;
        counted = k.3;
        ends = k.4 ∙ ap (λ (p : S). at (is_opening (shows p)) k.0.last) (sym k.2);
      }

  -- and back
  comes_to : (here : Option Reach) (a b : Picture) → (reach_by here a b).end ≡ b
  comes_to None a b = refl
  comes_to (Some r) a b = refl

  reached_twice : (here : Option Reach) (a b c : Picture) → reach_by (Some (reach_by here a b)) b c ≡ reach_by here a c
  reached_twice None a b c = refl
  reached_twice (Some r) a b c = refl

  added_back : (here : Option Reach) (texts : List (List Line)) (w : Piece S C R) → AreOne Tells texts w → BeginsAt here (shows w.start)
      → AreAdded here texts (length w.entries) (Some (reach_by here (shows w.start) (shows w.last)))
  added_back here [] w j begins = absurd j
  added_back here (text ∷ []) w t begins = (
    Some (reach_by here (shows w.start) (shows w.last)),
    length w.entries,
    0,
    record { part = part_of shows w; is = told text w t; begins = begins; counted = refl; ends = refl },
    (refl, refl),
    omega arith,
  )
  added_back here (text ∷ next ∷ later) w j begins =
      subst (λ (p : Piece S C R). BeginsAt here (shows p.start) → AreAdded here (text ∷ next ∷ later) (length p.entries)
      (Some (reach_by here (shows p.start) (shows p.last)))) (sym j.5)
      (λ begun.
      let mid = Some (reach_by here (shows j.0.start) (shows j.0.last)) in
      let begins_there = ap shows (sym j.4) ∙ sym (comes_to here (shows j.0.start) (shows j.0.last)) in
      let rest = added_back mid (next ∷ later) j.1 j.3 begins_there in
      let led = ap (λ (p : S). reach_by mid (shows p) (shows j.1.last)) (sym j.4)
      ∙ reached_twice here (shows j.0.start) (shows j.0.last) (shows j.1.last) in (
        mid,
        length j.0.entries,
        length j.1.entries,
        record { part = part_of shows j.0; is = told text j.0 j.2; begins = begun; counted = refl; ends = refl },
        subst (λ (r : Reach). AreAdded mid (next ∷ later) (length j.1.entries) (Some r)) led rest,
        length-append j.0.entries j.1.entries,
      )) begins

  history_added : (texts : List (List Line)) (count : ℕ) (there : Option Reach) → IsOneHistory m sound shows Tells texts count there →
      AreAdded None texts count there
  history_added texts count there h =
      subst (λ (n : ℕ). AreAdded None texts n there) h.counted
      (subst (λ (o : Option Reach). AreAdded None texts (length h.whole.entries) o) (sym h.ends) (added_back None texts h.whole h.one tt))

-- the first of them tells which kind it is
begun_at : (from : Picture) (text : List Line) (later : List (List Line)) (count : ℕ) (there : Option Reach)
    → (a : AreAdded None (text ∷ later) count there) → a.3.part.from ≡ from
    → AreAdded (Some (record { is_opened = is_opening from; end = from })) (text ∷ later) count there
begun_at from text later count there (next, one, rest, adds, added, counted) e = (
  next,
  one,
  rest,
  record {
    part = adds.part;
    is = adds.is;
    begins = e;
    counted = adds.counted;
    ends = adds.ends ∙ ap (λ (p : Picture). Some (record { is_opened = is_opening p; end = adds.part.to })) e;
  },
  added,
  counted,
)

module _ (text : List Line) (later : List (List Line)) (count : ℕ) (there : Option Reach) where
  by_first : (from : Picture) → AreAdded (Some (record { is_opened = is_opening from; end = from })) (text ∷ later) count there →
      IsBroadcastHistory (text ∷ later) count there ⊎ IsWatchHistory (text ∷ later) count there
  by_first (picture.Broadcast q) added = inl
      (one_history machines.broadcast bm.IsProper bp.IsSound picture.Broadcast TellsBroadcast broadcast-whole broadcast-step broadcast-answer
      (λ lines piece t. t.legal) broadcast_from broadcast_told q text later count there added)
  by_first (picture.Watch q) added = inr
      (one_history watch_machine wm.IsProper wp.IsSound picture.Watch TellsWatch watch-whole (watch-step _) (watch-answer _)
      (λ lines piece t. t.legal) watch_from watch_told q text later count there added)

  pub history : AreAdded None (text ∷ later) count there →
      IsBroadcastHistory (text ∷ later) count there ⊎ IsWatchHistory (text ∷ later) count there
  history added = by_first added.3.part.from (begun_at added.3.part.from text later count there added refl)

  pub added : IsBroadcastHistory (text ∷ later) count there ⊎ IsWatchHistory (text ∷ later) count there →
      AreAdded None (text ∷ later) count there
  added h = elim h [
    | inl b ↦ history_added machines.broadcast bm.IsProper bp.IsSound picture.Broadcast TellsBroadcast broadcast-whole broadcast-step
        broadcast-answer
        (λ lines piece t. t.legal) broadcast_from broadcast_told (text ∷ later) count there b
    | inr w ↦ history_added watch_machine wm.IsProper wp.IsSound picture.Watch TellsWatch watch-whole (watch-step _) (watch-answer _)
        (λ lines piece t. t.legal) watch_from watch_told (text ∷ later) count there w
  ]
