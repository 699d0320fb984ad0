-- What a legal text tells.
use Rattle.std.proofs.Common.{◌≡◌, inl, inr, ◌⊎◌, ℕ, ◌+◌, ◌<◌, ◌≤◌, ◌^◌, Bool, true, false, cond, eqb, eqb-true, eq-eqb, lt-ltb, le-ltb, List, [], ◌∷◌, ◌++◌, length, map, refl, sym, ap, ap₂, ◌∙◌, subst, Option, Some, None, arith}
use Rattle.std.specs.Prelude.{codes}
use Rattle.std.specs.List.{AllByRecursion}
use Rattle.std.proofs.lemmas.Bool.{cases_lt}
use Rattle.std.proofs.lemmas.Option.{none-some, same_Some}
use Rattle.th_lines.specs.Lines.{Line, Good, Long}
use Rattle.th_lines.specs.Fields.{number_last}
use Rattle.th_lines.proofs.Grammar.{table-finds, number_last-finds, number_last-again}
use Rattle.th_lines.proofs.Tables.{◌&◌}
use Rattle.th_log.specs.History.{Machine, IsRun}
use Rattle.th_log.specs.History.{end_of as end_state}
use Rattle.th_traces.specs.Entries.{end_of}
use Rattle.th_traces.specs.Spelled.{Bytes, call_line, end_line, entry_lines, reply_line}
use Rattle.th_traces.specs.Tables.{Table}
use Rattle.th_traces.proofs.Entries.{by_table-found}
use Rattle.th_check.specs.Histories.{IsHistory}
use Rattle.th_check.specs.Points.{Point, Does, ended_stage, ended_with}
use Rattle.th_check.specs.Stages.{Stage, CallDue, ReplyDue, Ended, Turn, On, Bad, Illegal, Turns, Words, SaysReply, begins, most_entries}
use Rattle.th_check.specs.Verdicts.{Leads}

-- the end line is spelled by its number alone
abbrev SpellsEnd : List ℕ → ℕ → Type 0
SpellsEnd line n = line ≡ end_line n

abbrev ends : Table ℕ
ends = (codes "END", number_last (λ (n : ℕ). n)) ∷ []

pub end_found : (line : List ℕ) (n : ℕ) → end_of line ≡ Some n → line ≡ end_line n
end_found line n h = by_table-found SpellsEnd ends
    (table-finds SpellsEnd ends (number_last-finds SpellsEnd (codes "END") (λ n. n) (λ n s. refl) & tt)) line n h

pub end_again : (n : ℕ) → n < 2 ^ 64 → end_of (end_line n) ≡ Some n
end_again n s = number_last-again (λ (n : ℕ). n) n s

abbrev pub IsOn : {P : Type 0} → Turn P → Type 0
IsOn (On next) = Unit {0}
IsOn Bad = ⊥
IsOn Illegal = ⊥

pub on_bad : {P A : Type 0} (next : P) → ◌≡◌ {A = Turn P} (On next) Bad → A
on_bad next e = absurd (subst IsOn e tt)

abbrev next_or : {P : Type 0} → P → Turn P → P
next_or p (On next) = next
next_or p Bad = p
next_or p Illegal = p

pub on_illegal : {P A : Type 0} (next : P) → ◌≡◌ {A = Turn P} (On next) Illegal → A
on_illegal next e = absurd (subst IsOn e tt)

pub same_on : {P : Type 0} (a b : P) → ◌≡◌ {A = Turn P} (On a) (On b) → a ≡ b
same_on a b e = ap (next_or a) e

module _ {E S C R : Type 0} (m : Machine E S C R) (words : Words C R) (IsCall : C → Type 0) (IsReplyTo : C → R → Type 0)
    (call_fields : C → List Bytes) (reply_fields : R → List Bytes) where
  abbrev pub IsEntry : C × R → Type 0
  IsEntry e = IsCall e.0 × IsReplyTo e.0 e.1

  abbrev pub fields : C × R → List Bytes × List Bytes
  fields e = (call_fields e.0, reply_fields e.1)

  -- what is left below a stage
  pub record From (state : E) (before : ℕ) (lines : List Bytes) (count : ℕ) (last : E) : Type 0 where
    pub entries : List (C × R)
    pub run : IsRun m state entries
    pub each : AllByRecursion IsEntry entries
    pub told : lines ≡ entry_lines (map fields entries) ++ end_line count ∷ []
    pub to : end_state m state entries ≡ last
    pub counted : before + length entries ≡ count
    pub most : count ≤ most_entries

  pub history_of : (state : E) (lines : List Bytes) (count : ℕ) (last : E) → From state 0 lines count last →
      (h : IsHistory m IsEntry fields state lines count) × (end_state m state h.entries ≡ last)
  history_of state lines count last f = (
    record {
      entries = f.entries;
      run = f.run;
      each = f.each;
      told = f.told;
      counted = omega (arith, f.counted);
      most = f.most;
    },
    f.to,
  )

  abbrev pub Below : Stage E C → List Bytes → ℕ → E → Type 0
  Below (CallDue state before) lines count last = From state before lines count last
  Below (ReplyDue state before call) lines count last =
      (line : Bytes) × (later : List Bytes) × (lines ≡ line ∷ later) × SaysReply m words state call line
      × From (m.step state call).1 (before + 1) later count last
  Below (Ended state told) lines count last = (lines ≡ []) × (told ≡ count) × (state ≡ last)

  abbrev pub Fits : Stage E C → Type 0
  Fits (CallDue state before) = before ≤ most_entries
  Fits (ReplyDue state before call) = before < most_entries
  Fits (Ended state told) = told ≤ most_entries

  -- what a line was where a call was due
  abbrev Begins : E → ℕ → Option C → Option ℕ → Stage E C → Type 0
  Begins state before said told stage = ((call : C) × (said ≡ Some call) × (before < most_entries) × (stage ≡ ReplyDue state before call))
      ⊎ ((told ≡ Some before) × (stage ≡ Ended state before))

  module _ (state : E) (before : ℕ) (stage : Stage E C) where
    by_call : (call : C) (told : Option ℕ) → begins m words state before (Some call) told ≡ Some stage →
        Begins state before (Some call) told stage
    by_call call told h = elim (cases_lt before most_entries) [
      | inl low ↦
          inl (
            call,
            refl,
            low,
            sym (same_Some _ _
                (sym (ap (λ (b : Bool). cond b (Some (ReplyDue state before call)) None) (lt-ltb before most_entries low)) ∙ h)),
          )
      | inr high ↦
          absurd
          (none-some stage (sym (ap (λ (b : Bool). cond b (Some (ReplyDue state before call)) None) (le-ltb before most_entries high)) ∙ h))
    ]

    by_end : (told : ℕ) (b : Bool) → eqb told before ≡ b → cond b (Some (Ended state before)) None ≡ Some stage →
        Begins state before None (Some told) stage
    by_end told true e h = inr (ap Some (eqb-true told before e), sym (same_Some _ _ h))
    by_end told false e h = absurd (none-some stage h)

    begins_cases : (said : Option C) (told : Option ℕ) → begins m words state before said told ≡ Some stage →
        Begins state before said told stage
    begins_cases (Some call) told h = by_call call told h
    begins_cases None (Some told) h = by_end told (eqb told before) refl h
    begins_cases None None h = absurd (none-some stage h)

  -- what the words of a kind are known for
  module _ (call_found : (line : List ℕ) (call : C) → words.call_of line ≡ Some call → IsCall call × (line ≡ call_line (call_fields call)))
      (call_again : (call : C) → IsCall call → words.call_of (call_line (call_fields call)) ≡ Some call)
      (reply_found : (call : C) (line : List ℕ) (reply : R) → words.reply_of call line ≡ Some reply → IsReplyTo call reply
      × (line ≡ reply_line (reply_fields reply)))
      (reply_again : (call : C) (reply : R) → IsReplyTo call reply → words.reply_of call (reply_line (reply_fields reply)) ≡ Some reply)
      (no_call : (count : ℕ) → words.call_of (end_line count) ≡ None) where
    -- one line more
    one_entry : (state : E) (before : ℕ) (line : List ℕ) (call : C) → words.call_of line ≡ Some call
        → (lines : List Bytes) (count : ℕ) (last : E) → Below (ReplyDue state before call) lines count last
        → From state before (line ∷ lines) count last
    one_entry state before line call said lines count last b =
        let reply : R = (m.step state call).0 in
        let c = call_found line call said in
        let r = reply_found call b.0 reply b.3.1 in
        let f = b.4 in
        record {
          entries = (call, reply) ∷ f.entries;
          run = (b.3.0, refl, f.run);
          each = ((c.0, r.0), f.each);
          told = ap₂ (λ (l : Bytes) (ls : List Bytes). l ∷ ls) c.1 (b.2 ∙ ap₂ (λ (l : Bytes) (ls : List Bytes). l ∷ ls) r.1 f.told);
          to = f.to;
          counted = omega (arith, f.counted);
          most = f.most;
        }

    at_end : (state : E) (before : ℕ) (line : List ℕ) → before ≤ most_entries → end_of line ≡ Some before
        → (lines : List Bytes) (count : ℕ) → lines ≡ [] → before ≡ count → From state before (line ∷ lines) count state
    at_end state before line few said lines count none same = record {
      entries = [];
      run = tt;
      each = tt;
      told = ap₂ (λ (l : Bytes) (ls : List Bytes). l ∷ ls) (end_found line before said ∙ ap end_line same) none;
      to = refl;
      counted = omega (arith, same);
      most = omega (arith, few, same);
    }

    pub fits : (stage : Stage E C) (line : List ℕ) (next : Stage E C) → Fits stage → Turns m words stage line (On next) → Fits next
    fits (CallDue state before) line next f t = elim (begins_cases state before next (words.call_of line) (end_of line) t) [
      | inl c ↦ subst Fits (sym c.3) c.2
      | inr e ↦ subst Fits (sym e.1) f
    ]
    fits (ReplyDue state before call) line next f t =
        let more : before + 1 ≤ most_entries = omega (arith, f) in subst Fits (sym t.1) more
    fits (Ended state told) line next f t = absurd t

    pub below : (stage : Stage E C) (line : List ℕ) (next : Stage E C) (lines : List Bytes) (count : ℕ) (last : E) → Fits stage →
        Turns m words stage line (On next)
        → Below next lines count last → Below stage (line ∷ lines) count last
    below (CallDue state before) line next lines count last f t b = elim (begins_cases state before next (words.call_of line) (end_of line) t) [
      | inl c ↦ one_entry state before line c.0 c.1 lines count last (subst (λ (s : Stage E C). Below s lines count last) c.3 b)
      | inr e ↦
          (let d : Below (Ended state before) lines count last = subst (λ (s : Stage E C). Below s lines count last) e.1 b in
          subst (λ (l : E). From state before (line ∷ lines) count l) d.2 (at_end state before line f e.0 lines count d.0 d.1))
    ]
    below (ReplyDue state before call) line next lines count last f t b =
        (line, lines, refl, t.0, subst (λ (s : Stage E C). Below s lines count last) t.1 b)
    below (Ended state told) line next lines count last f t b = absurd t

    -- at the end
    pub nothing_below : (stage : Stage E C) (count : ℕ) → ended_stage stage ≡ Some count
        → (last : E) × (stage ≡ Ended last count) × Below stage [] count last
    nothing_below (CallDue state before) count e = absurd (none-some count e)
    nothing_below (ReplyDue state before call) count e = absurd (none-some count e)
    nothing_below (Ended state told) count e =
        let same = same_Some told count e in (state, ap (λ (n : ℕ). Ended state n) same, (refl, same, refl))

    -- on the points of a kind
    module _ (point : Stage E C → Point)
        (does_on : (stage : Stage E C) (line : List ℕ) (next : Point) → Does (point stage) (Good line) (On next)
        → (s : Stage E C) × Turns m words stage line (On s) × (next ≡ point s))
        (on_does : (stage : Stage E C) (line : List ℕ) (next : Stage E C) → Turns m words stage line (On next) →
        Does (point stage) (Good line) (On (point next)))
        (ended : (stage : Stage E C) → ended_with (point stage) ≡ ended_stage stage) where
      pub lines_below : (stage : Stage E C) → Fits stage → (lines : List Line) (there : Point) → Leads (point stage) lines there
          → (count : ℕ) → ended_with there ≡ Some count
          → (left : List Bytes) × (lines ≡ map Good left) × (last : E) × (there ≡ point (Ended last count)) × Below stage left count last
      lines_below stage f [] there led count e =
          let n = nothing_below stage count (sym (ended stage) ∙ ap ended_with (sym led) ∙ e) in
          ([], refl, n.0, led ∙ ap point n.1, n.2)
      lines_below stage f (Long ∷ lines) there led count e = on_bad led.0 led.1
      lines_below stage f (Good line ∷ lines) there led count e =
          let d = does_on stage line led.0 led.1 in
          let later =
          lines_below d.0 (fits stage line d.0 f d.1) lines there (subst (λ (p : Point). Leads p lines there) d.2 led.2) count e in (
            line ∷ later.0,
            ap (λ (l : List Line). Good line ∷ l) later.1,
            later.2,
            later.3,
            below stage line d.0 later.0 count later.2 f d.1 later.4,
          )

      -- and back
      call_turn : (state : E) (before : ℕ) (call : C) → IsCall call → before < most_entries
          → Turns m words (CallDue state before) (call_line (call_fields call)) (On (ReplyDue state before call))
      call_turn state before call is low =
          ap (λ (o : Option C). begins m words state before o (end_of (call_line (call_fields call)))) (call_again call is)
          ∙ ap (λ (b : Bool). cond b (Some (ReplyDue state before call)) None) (lt-ltb before most_entries low)

      end_turn : (state : E) (count : ℕ) → count ≤ most_entries → Turns m words (CallDue state count) (end_line count) (On (Ended state count))
      end_turn state count few = ap (λ (o : Option C). begins m words state count o (end_of (end_line count))) (no_call count)
          ∙ ap (λ (o : Option ℕ). begins m words state count None o) (end_again count (omega (arith, few)))
          ∙ ap (λ (b : Bool). cond b (Some (Ended state count)) None) (eq-eqb count count refl)

      pub entries_lead : (state : E) (before : ℕ) (entries : List (C × R)) (count : ℕ) → IsRun m state entries →
          AllByRecursion IsEntry entries
          → before + length entries ≡ count → count ≤ most_entries
          → Leads (point (CallDue state before)) (map Good (entry_lines (map fields entries) ++ end_line count ∷ []))
          (point (Ended (end_state m state entries) count))
      entries_lead state before [] count run each counted most =
          let same : count ≡ before = omega (arith, counted) in (
            point (Ended state count),
            on_does (CallDue state before) (end_line count) (Ended state count)
                (subst (λ (k : ℕ). Turns m words (CallDue state k) (end_line count) (On (Ended state count))) same
                (end_turn state count most)),
            refl,
          )
      entries_lead state before (e ∷ es) count run each counted most =
          let low : before < most_entries = omega (arith, counted, most) in
          let says : SaysReply m words state e.0 (reply_line (reply_fields e.1)) =
          (run.0, reply_again e.0 e.1 each.0.1 ∙ ap Some run.1) in (
            point (ReplyDue state before e.0),
            on_does (CallDue state before) (call_line (call_fields e.0)) (ReplyDue state before e.0)
                (call_turn state before e.0 each.0.0 low),
            (
              point (CallDue (m.step state e.0).1 (before + 1)),
              on_does (ReplyDue state before e.0) (reply_line (reply_fields e.1)) (CallDue (m.step state e.0).1 (before + 1)) (says, refl),
              entries_lead (m.step state e.0).1 (before + 1) es count run.2 each.1 (omega (arith, counted)) most,
            ),
          )

      pub history_leads : (state : E) (lines : List Bytes) (count : ℕ) (h : IsHistory m IsEntry fields state lines count)
          → Leads (point (CallDue state 0)) (map Good lines) (point (Ended (end_state m state h.entries) count))
      history_leads state lines count h =
          subst (λ (l : List Bytes). Leads (point (CallDue state 0)) (map Good l) (point (Ended (end_state m state h.entries) count)))
          (sym h.told)
          (entries_lead state 0 h.entries count h.run h.each (omega (arith, h.counted)) h.most)
