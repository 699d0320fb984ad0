-- Lines that are carried out in a row are answered in turn.
use Rattle.std.proofs.Common.{◌≡◌, ◌∙◌, inl, inr, ℕ, ◌+◌, ◌<◌, ◌≤◌, Bool, true, false, cond, List, [], ◌∷◌, ◌++◌, length, map, refl, suc, sym, ap, subst, append_assoc, append-nil, arith, length-append, zero, Option, Some, Result, Ok}
use Rattle.std.proofs.lemmas.List.{length-map, map-append}
use Rattle.th_model.specs.declared.handles.TxId.{TxId}
use Rattle.th_model.specs.declared.handles.RxId.{RxId}
use Rattle.th_model.specs.declared.kind.Kind.{Kind}
use Rattle.th_model.specs.declared.kind.Kind.TheVariants as Kinds
use Rattle.th_model.specs.declared.verb.ReceiverVerb.{ReceiverVerb}
use Rattle.th_model.specs.declared.verb.SenderVerb.TheVariants.{Send}
use Rattle.th_lines.specs.Answering.{Turned}
use Rattle.th_lines.specs.Commands.{command_of}
use Rattle.th_lines.specs.Intake.{IsRow, Reading}
use Rattle.th_lines.specs.Lines.{Good, Line, line_of, lines_from}
use Rattle.th_lines.specs.declared.command.Action.{Action}
use Rattle.th_lines.specs.declared.command.Action.TheVariants.{ByReceiver, BySender}
use Rattle.th_lines.specs.declared.command.Command.{Command}
use Rattle.th_lines.specs.declared.command.Command.TheVariants.{On}
use Rattle.th_lines.specs.declared.reply.Code.{Code}
use Rattle.th_lines.specs.declared.reply.Code.TheVariants as Codes
use Rattle.th_registry.specs.Calls.{Bytes, receives}
use Rattle.th_registry.specs.Events.{Event, EventResult, Receives, Sends}
use Rattle.th_registry.specs.Hub as hub
use Rattle.th_registry.specs.Hub.{Query, Said, Find}
use Rattle.th_registry.specs.Receipts.{ChannelReceipt}
use Rattle.th_registry.specs.Rows.{InRow, MadeInRow, on_topic, sends_of, times}
use Rattle.th_registry.specs.Typed.{replied}
use Rattle.th_registry.specs.declared.opening.Found.{Found}
use Rattle.th_registry.specs.declared.opening.TopicId.{TopicId}
use Rattle.th_session.specs.declared.handles.Handles.{Handles}
use Rattle.th_session.specs.declared.keeping.Keeping.{Keeping}
use Rattle.th_session.specs.declared.keeping.Keeping.TheVariants.{All, Nothing}
use Rattle.th_session.specs.Answer as desk
use Rattle.th_session.specs.Held.{Holding, handles_at}
use Rattle.th_session.specs.Kept.{Kept, kept_by}
use Rattle.th_session.specs.Rows.{AreThere, Carried, CarriesFirst, CarriesLines, CarriesOut, ReadsTo, ReceiveEach, RowBy, SendEach, told_by, with_more}
use Rattle.th_session.specs.Run.{IsAnswered, line_turn}
use Rattle.th_session.specs.Script.{Answer, Plays, Say, Told, acting, at_topic, kept, script}
use Rattle.th_session.specs.Table.{is_for, judged, own}
use Rattle.th_lines.specs.declared.reply.Reply.TheVariants.{Refused}
use Rattle.th_session.proofs.Playing.{plays-by}

-- a line asks for this event of an own handle, on a topic of this name and kind, by what its actor holds there
pub record Asks (kind : Kind) (s : Handles TxId RxId) (name line : Bytes) (event : Event) : Type 0 where
  pub action : Action
  pub spelled : command_of line ≡ Some (On name action)
  pub fits : is_for kind action ≡ true
  pub asked : judged action s ≡ Ok event
  pub stays : (said : EventResult) (n : ℕ) (h : Holding) → kept action said n h ≡ h

-- each of these lines asks for one of these events
abbrev pub AskEach : Kind → Handles TxId RxId → Bytes → List Bytes → List Event → Type 0
AskEach kind s name [] [] = Unit {0}
AskEach kind s name [] (e ∷ es) = ⊥
AskEach kind s name (l ∷ ls) [] = ⊥
AskEach kind s name (l ∷ ls) (e ∷ es) = Asks kind s name l e × AskEach kind s name ls es

-- sends
pub sends_ask : (s : Handles TxId RxId) (t : TxId) (name : Bytes) (lines values : List Bytes) → s.sender ≡ Some t →
    SendEach name lines values → AskEach Kinds.Broadcast s name lines (sends_of t values)
sends_ask s t name [] [] holds p = tt
sends_ask s t name [] (v ∷ vs) holds p = absurd p
sends_ask s t name (l ∷ ls) [] holds p = absurd p
sends_ask s t name (l ∷ ls) (v ∷ vs) holds p = (
  record {
    action = BySender (Send v);
    spelled = p.0;
    fits = refl;
    asked = ap (λ (o : Option TxId). own o (λ t. Sends t (Send v))) holds;
    stays = λ _ _ _. refl;
  },
  sends_ask s t name ls vs holds p.1,
)

-- what a receiver does
pub receives_ask : (kind : Kind) (s : Handles TxId RxId) (r : RxId) (verb : ReceiverVerb) (name : Bytes) (lines : List Bytes) →
    receives kind verb ≡ true → s.receiver ≡ Some r → ReceiveEach name verb lines →
    AskEach kind s name lines (times (length lines) (Receives r verb))
receives_ask kind s r verb name [] fits holds p = tt
receives_ask kind s r verb name (l ∷ ls) fits holds p = (
  record {
    action = ByReceiver verb;
    spelled = p.0;
    fits = fits;
    asked = ap (λ (o : Option RxId). own o (λ r. Receives r verb)) holds;
    stays = λ _ _ _. refl;
  },
  receives_ask kind s r verb name ls fits holds p.1,
)

-- the first ones of them
record FirstAsk (kind : Kind) (s : Handles TxId RxId) (name : Bytes) (lines : List Bytes) (made : List Event) : Type 0 where
  done : List Bytes
  later : List Bytes
  parts : lines ≡ done ++ later
  ask : AskEach kind s name done made

first_ask : (kind : Kind) (s : Handles TxId RxId) (name : Bytes) (lines : List Bytes) (made later : List Event) →
    AskEach kind s name lines (made ++ later) → FirstAsk kind s name lines made
first_ask kind s name lines [] later p = record { done = []; later = lines; parts = refl; ask = tt }
first_ask kind s name [] (e ∷ made) later p = absurd p
first_ask kind s name (l ∷ lines) (e ∷ made) later p =
    let rest = first_ask kind s name lines made later p.1 in
    record {
      done = l ∷ rest.done;
      later = rest.later;
      parts = ap (λ (ls : List Bytes). l ∷ ls) rest.parts;
      ask = (p.0, rest.ask);
    }

-- what is kept of a receipt and others behind it
kept_more : (keeping : Keeping) (had : Kept) (one : TopicId × ChannelReceipt) (more : List (TopicId × ChannelReceipt)) →
    kept_by keeping (with_more (kept_by keeping (with_more had (one ∷ []))) more) ≡ kept_by keeping (with_more had (one ∷ more))
kept_more All had one more = ap (λ (rs : List (TopicId × ChannelReceipt)). record had { receipts = rs })
    (append_assoc had.receipts (one ∷ []) more)
kept_more Nothing had one more = refl

module _ {D : Type 0} (says : D → (q : Query) → Said q → D → Type 0) (found : Found) (name : Bytes) where
  abbrev n : ℕ
  n = found.topic.0

  module _ (had : Kept) (old mid : D) (at : says old (Find name) (Some found) old) (line : Bytes) (event : Event)
      (r : ChannelReceipt) (a : Asks found.kind (handles_at had.handles n) name line event)
      (said : says old (hub.On n event) (replied (Ok r)) mid) where
    abbrev has : Kept
    has = with_more had ((record { 0 = n }, r) ∷ [])

    played : Plays says (script had.handles (On name a.action)) old (Told n r) had.handles mid
    played =
        let P : Bool → Type 0 = λ fits. Plays says (cond fits (acting a.action n had.handles)
        (Say (Refused Codes.WrongKind) had.handles)) old (Told n r) had.handles mid in
        let by = plays-by says a.action n had.handles had.handles (replied (Ok r)) old mid a.asked said refl
        (sym (a.stays (replied (Ok r)).0 n had.handles)) in
        (Some found, old, at, subst P (sym a.fits) by)

    answered : desk.Answers says had old line (Told n r) has mid
    answered = subst (λ (c : Option Command). desk.AnswersAs says c had old (Told n r) has mid) (sym a.spelled)
        (inl (played, (refl, refl)))

    turn : (keeping : Keeping) → line_turn keeping says ((had, old), false) (Good line) (told_by r) ((kept_by keeping has, mid), false)
    turn keeping = (Told n r, has, answered, refl, refl, refl, refl)

  -- the actor holds the same on the topic, whatever it keeps
  same_handles : (keeping : Keeping) (had : Kept) (more : List (TopicId × ChannelReceipt)) →
      (kept_by keeping (with_more had more)).handles ≡ had.handles
  same_handles All had more = refl
  same_handles Nothing had more = refl

  turns : (keeping : Keeping) (had : Kept) (old new : D) (at : says old (Find name) (Some found) old) (lines : List Bytes)
      (events : List Event) (rs : List ChannelReceipt) → 0 < length lines →
      AskEach found.kind (handles_at had.handles n) name lines events → InRow says n events rs old new →
      Turned (line_turn keeping says) (map (λ l. Good l) lines) ((had, old), false) (map told_by rs)
      ((kept_by keeping (with_more had (on_topic n rs)), new), false)
  turns keeping had old new at [] events rs some p q = absurd (omega (arith, some))
  turns keeping had old new at (l ∷ lines) [] rs some p q = absurd p
  turns keeping had old new at (l ∷ lines) (e ∷ es) [] some p q = absurd q
  turns keeping had old new at (l ∷ []) (e ∷ []) (r ∷ []) some p q =
      let t = turn had old q.0 at l e r p.0 q.1 keeping in (
        ((kept_by keeping (with_more had ((record { 0 = n }, r) ∷ [])), q.0), false),
        t,
        ap (λ (d : D). ((kept_by keeping (with_more had ((record { 0 = n }, r) ∷ [])), d), false)) q.3,
      )
  turns keeping had old new at (l ∷ []) (e ∷ []) (r ∷ r2 ∷ rs) some p q = absurd q.3
  turns keeping had old new at (l ∷ []) (e ∷ e2 ∷ es) (r ∷ rs) some p q = absurd p.1
  turns keeping had old new at (l ∷ l2 ∷ lines) (e ∷ es) (r ∷ rs) some p q =
      let one : TopicId × ChannelReceipt = (record { 0 = n }, r) in
      let has : Kept = kept_by keeping (with_more had (one ∷ [])) in
      let t = turn had old q.0 at l e r p.0 q.1 keeping in
      let asks = subst (λ (h : Holding). AskEach found.kind (handles_at h n) name (l2 ∷ lines) es)
      (sym (same_handles keeping had (one ∷ []))) p.1 in
      let rest = turns keeping has q.0 new (q.2 name (Some found) at) (l2 ∷ lines) es rs (omega arith) asks q.3 in (
        ((has, q.0), false),
        t,
        subst (λ (k : Kept). Turned (line_turn keeping says) (map (λ l. Good l) (l2 ∷ lines)) ((has, q.0), false) (map told_by rs)
            ((k, new), false)) (kept_more keeping had one (on_topic n rs)) rest,
      )

  in_row-many : (events : List Event) (rs : List ChannelReceipt) (old new : D) → InRow says n events rs old new → length events ≡ length rs
  in_row-many [] [] old new q = refl
  in_row-many [] (r ∷ rs) old new q = absurd q
  in_row-many (e ∷ es) [] old new q = absurd q
  in_row-many (e ∷ es) (r ∷ rs) old new q = ap suc (in_row-many es rs q.0 new q.3)

  ask-many : (kind : Kind) (s : Handles TxId RxId) (lines : List Bytes) (events : List Event) → AskEach kind s name lines events →
      length lines ≡ length events
  ask-many kind s [] [] p = refl
  ask-many kind s [] (e ∷ es) p = absurd p
  ask-many kind s (l ∷ ls) [] p = absurd p
  ask-many kind s (l ∷ ls) (e ∷ es) p = ap suc (ask-many kind s ls es p.1)

  module _ (had has : Kept) (old new : D) (at : says old (Find name) (Some found) old) (lines : List Bytes) where
    carried : (done : List Bytes) (made : List Event) (rs : List ChannelReceipt) → 0 < length done →
        AskEach found.kind (handles_at had.handles n) name done made → InRow says n made rs old new →
        has ≡ with_more had (on_topic n rs) → Carried says done (had, old) (has, new)
    carried done made rs some p q e = record {
      some = some;
      topic = n;
      added = rs;
      many = sym (ask-many found.kind (handles_at had.handles n) done made p ∙ in_row-many made rs old new q);
      kept = e;
      turned = λ keeping. subst (λ (k : Kept). Turned (line_turn keeping says) (map (λ l. Good l) done) ((had, old), false)
          (map told_by rs) ((kept_by keeping k, new), false)) (sym e) (turns keeping had old new at done made rs some p q);
    }

    carries : (done later : List Bytes) (made : List Event) (rs : List ChannelReceipt) (count : ℕ) → length rs ≡ count →
        lines ≡ done ++ later →
        AskEach found.kind (handles_at had.handles n) name done made → InRow says n made rs old new →
        has ≡ with_more had (on_topic n rs) → CarriesFirst says lines (had, old) count (has, new)
    carries [] later [] [] count many parts p q e =
        let same = e ∙ ap (λ (l : List (TopicId × ChannelReceipt)). record had { receipts = l }) (append-nil had.receipts) in
        inl (sym many, λ i. (same i, q i))
    carries [] later (m ∷ made) rs count many parts p q e = absurd p
    carries [] later [] (r ∷ rs) count many parts p q e = absurd q
    carries (l ∷ done) later made rs count many parts p q e =
        let so_many : length (l ∷ done) ≡ count =
        ask-many found.kind (handles_at had.handles n) (l ∷ done) made p ∙ in_row-many made rs old new q ∙ many in
        inr (l ∷ done, later, parts, so_many, carried (l ∷ done) made rs (omega arith) p q e)

    -- events that lines ask for were made in a row
    pub carries_row : (events : List Event) (receipts : List (TopicId × ChannelReceipt)) (count : ℕ) →
        AskEach found.kind (handles_at had.handles n) name lines events →
        MadeInRow says n events had.receipts receipts old new count → has ≡ record had { receipts = receipts } →
        CarriesFirst says lines (had, old) count (has, new)
    carries_row events receipts count p m e =
        let f = first_ask found.kind (handles_at had.handles n) name lines m.made m.later
        (subst (λ (es : List Event). AskEach found.kind (handles_at had.handles n) name lines es) m.parts p) in
        carries f.done f.later m.made m.added count m.counted f.parts f.ask m.row
        (e ∙ ap (λ (l : List (TopicId × ChannelReceipt)). record had { receipts = l }) m.behind)

  module _ (had : Kept) (h : Holding) (receipts : List (TopicId × ChannelReceipt)) (old new : D)
      (at : says old (Find name) (Some found) old) (count : ℕ) (lines : List Bytes) where
    abbrev has_now : Kept
    has_now = record had { handles = h; receipts = receipts }

    none_made : h ≡ had.handles → count ≡ 0 → receipts ≡ had.receipts → new ≡ old → CarriesFirst says lines (had, old) count (has_now, new)
    none_made p c r d = inl (c, λ i. (record had { handles = p i; receipts = r i }, d i))

    same_held : h ≡ had.handles → has_now ≡ record had { receipts = receipts }
    same_held p = ap (λ (k : Holding). record had { handles = k; receipts = receipts }) p

    -- events that its own handle made in a row, of lines that ask it for them
    pub row_carries : {H : Type 0} (handle : Option H) (events : H → List Event) →
        ((by : H) → handle ≡ Some by → AskEach found.kind (handles_at had.handles n) name lines (events by)) →
        RowBy says n handle events had.handles h had.receipts receipts old new count →
        CarriesFirst says lines (had, old) count (has_now, new)
    row_carries handle events asks (same, inl none) = none_made same none.0 none.1 none.2
    row_carries handle events asks (same, inr (by, holds, made)) =
        carries_row had has_now old new at lines (events by) receipts count (asks by holds) made (same_held same)

-- lines that are the same
pub same_each : (name : Bytes) (verb : ReceiverVerb) (line : Bytes) (k : ℕ) → command_of line ≡ Some (On name (ByReceiver verb)) →
    ReceiveEach name verb (times k line)
same_each name verb line zero e = tt
same_each name verb line (suc k) e = (e, same_each name verb line k e)

pub so_many_same : {A : Type 0} (k : ℕ) (a : A) → length (times k a) ≡ k
so_many_same zero a = refl
so_many_same (suc k) a = ap suc (so_many_same k a)

one_more_same : (k : ℕ) (line : Bytes) (more : List Line) →
    map (λ l. Good l) (times k line) ++ Good line ∷ more ≡ map (λ l. Good l) (times (suc k) line) ++ more
one_more_same zero line more = refl
one_more_same (suc k) line more = ap (λ (ls : List Line). Good line ∷ ls) (one_more_same k line more)

-- one line more was read
pub reads_same : (line ahead rest behind : List ℕ) (k : ℕ) → ReadsTo line ahead (times k line) rest →
    ((ended : Bool) (more : List ℕ) → lines_from ended [] (rest ++ more) ≡ Good line ∷ lines_from ended [] (behind ++ more)) →
    ReadsTo line ahead (times (suc k) line) behind
reads_same line ahead rest behind k p q ended more =
    p ended more ∙ ap (λ (ls : List Line). map (λ l. Good l) (times k line) ++ ls) (q ended more)
    ∙ one_more_same k line (lines_from ended [] (behind ++ more))

pub reads_more : (line ahead rest behind : List ℕ) (lines : List Bytes) (next : Bytes) → ReadsTo line ahead lines rest →
    ((ended : Bool) (more : List ℕ) → lines_from ended [] (rest ++ more) ≡ Good next ∷ lines_from ended [] (behind ++ more)) →
    ReadsTo line ahead (lines ++ next ∷ []) behind
reads_more line ahead rest behind lines next p q ended more =
    p ended more ∙ ap (λ (ls : List Line). map (λ l. Good l) lines ++ ls) (q ended more)
    ∙ sym (append_assoc (map (λ l. Good l) lines) (Good next ∷ []) (lines_from ended [] (behind ++ more)))
    ∙ ap (λ (ls : List Line). ls ++ lines_from ended [] (behind ++ more)) (sym (map-append (λ l. Good l) lines (next ∷ [])))

pub send_more : (name : Bytes) (lines values : List Bytes) (line value : Bytes) → SendEach name lines values →
    command_of line ≡ Some (On name (BySender (Send value))) → SendEach name (lines ++ line ∷ []) (values ++ value ∷ [])
send_more name [] [] line value p e = (e, tt)
send_more name [] (v ∷ vs) line value p e = absurd p
send_more name (l ∷ ls) [] line value p e = absurd p
send_more name (l ∷ ls) (v ∷ vs) line value p e = (p.0, send_more name ls vs line value p.1 e)

pub are_there : (line ahead rest : List ℕ) (lines : List Bytes) → ReadsTo line ahead lines rest → AreThere line ahead lines
are_there line ahead rest lines p ended more = (lines_from ended [] (rest ++ more), p ended more)

module _ {D : Type 0} (says : D → (q : Query) → Said q → D → Type 0) where
  -- the first ones of lines that are there were carried out
  -- no more than there are
  pub no_more_than : (lines : List Bytes) (old : Kept × D) (count : ℕ) (new : Kept × D) → CarriesFirst says lines old count new →
      count ≤ length lines
  no_more_than lines old count new (inl none) = omega (arith, none.0)
  no_more_than lines old count new (inr (done, later, parts, many, carried)) =
      omega (arith, ap length parts, many, length-append done later)

  pub carries_lines : (line ahead : List ℕ) (most : ℕ) (lines : List Bytes) (old : Kept × D) (count : ℕ) (new : Kept × D) →
      AreThere line ahead lines → length lines ≤ most → CarriesFirst says lines old count new →
      CarriesLines says line ahead most old count new
  carries_lines line ahead most lines old count new there few (inl none) = inl none
  carries_lines line ahead most lines old count new there few (inr (done, later, parts, many, carried)) =
      let n = ap length parts in
      inr (
        done,
        many,
        λ ended more.
            let all = there ended more in (
              map (λ l. Good l) later ++ all.0,
              all.1 ∙ ap (λ (ls : List Bytes). map (λ l. Good l) ls ++ all.0) parts
                  ∙ ap (λ (ls : List Line). ls ++ all.0) (map-append (λ l. Good l) done later)
                  ∙ append_assoc (map (λ l. Good l) done) (map (λ l. Good l) later) all.0,
            ),
        omega (arith, n, few, many, length-append done later),
        carried,
      )

  -- and were those that an intake shows
  pub carries_out : (there : Reading) (line : List ℕ) (most most' : ℕ) (old : Kept × D) (count : ℕ) (new : Kept × D) →
      Good line ≡ line_of true there.line → most ≤ most' → CarriesLines says line there.came.ahead most old count new →
      CarriesOut says there most' old count new
  carries_out there line most most' old count new is few (inl none) = inl none
  carries_out there line most most' old count new is few (inr (lines, many, first, within, carried)) = inr (
    lines,
    record {
      counted = length-map lines (λ l. Good l) ∙ many;
      first = λ ended more.
          let all = first ended more in (
            all.0,
            ap (λ (l : Line). l ∷ lines_from ended [] (there.came.ahead ++ more)) (sym is) ∙ all.1,
          );
    },
    omega (arith, within, few),
    carried,
  )
