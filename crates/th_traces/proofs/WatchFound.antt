-- What is read as a watch picture is its spelling.
use Rattle.std.proofs.Common.{◌≡◌, ℕ, ◌<◌, ◌^◌, Bool, true, false, List, [], ◌∷◌, ◌++◌, map, refl, sym, ap, ◌∙◌, Option, Some, None, subst, cond, arith, append_assoc}
use Rattle.std.specs.Prelude.{codes, is_some, nat_lt, not, ◌&&◌}
use Rattle.std.specs.Option.{option_map}
use Rattle.std.specs.Fmt.{decimal}
use Rattle.std.specs.Map.{keys_of}
use Rattle.std.specs.Str.{bytes_eq}
use Rattle.std.proofs.lemmas.Bool.{false≢true, ltb-true}
use Rattle.std.proofs.lemmas.List.{map-append}
use Rattle.std.proofs.lemmas.Option.{none-some}
use Rattle.std.proofs.lemmas.Slice.Eq.{bytes_eq-Decides}
use Rattle.th_model.specs.Handles.{AreLive}
use Rattle.th_model.specs.WatchMachine.{Kept}
use Rattle.th_model.specs.WatchPicture.{IsSound}
use Rattle.th_model.proofs.HandleLemmas.{with_sender-new}
use Rattle.th_watch.specs.Held.{shown_picture}
use Rattle.th_lines.specs.Commands.{IsValue}
use Rattle.th_lines.specs.Fields.{Rest, ended, field_then, number_last, number_then, value_last}
use Rattle.th_lines.proofs.Grammar.{Finds, ended-found, field-found, joined, mapped, number_last-found, number_then-found, table-finds, value_last-found}
use Rattle.th_lines.proofs.Numbers.{and_parts}
use Rattle.th_lines.proofs.Tables.{◌&◌}
use Rattle.th_traces.specs.declared.head.Head.{Head}
use Rattle.th_traces.specs.declared.head.Head.TheVariants as head
use Rattle.th_traces.specs.declared.picture.Picture.{Picture}
use Rattle.th_traces.specs.declared.picture.Picture.TheVariants as picture
use Rattle.th_traces.specs.declared.place.Place.TheVariants.{InWatch, WatchHeaded}
use Rattle.th_traces.specs.Drafts.{More, Tells, Whole, allowed}
use Rattle.th_traces.specs.LiveHandles.{live, next_last, takes_receiver, takes_sender, with_rx, with_tx}
use Rattle.th_traces.specs.Pictures.{Begun, On, goes_on, if_told, leads, step, watch_next, whole_watch}
use Rattle.th_traces.specs.Shown.{Spells}
use Rattle.th_traces.specs.Spelled as Spelled
use Rattle.th_traces.specs.Spelled.{Bytes, kept_line, picture_lines, receiver_line, sender_line, start_of}
use Rattle.th_traces.specs.Tables.{by_table}
use Rattle.th_traces.specs.Watch.{head as head_fields, seen_or_unseen as state_word, standing, start, told}
use Rattle.th_traces.specs.WatchDrafts.{Sketch, body, handles, has_value, reader_last, seen_or_unseen, sketch, start as read_start, with_handles, with_value}
use Rattle.th_traces.proofs.Begun.{allowed-found}
use Rattle.th_traces.proofs.BroadcastFound.{begun-same, kept-more, next-found, not-begun, receiver-more, sender-more, so_far}
use Rattle.th_traces.proofs.Entries.{by_table-found}
use Rattle.th_traces.proofs.Further.{above, entry-last, none_of}
use Rattle.th_traces.proofs.Telling.{receiver-told, sender-told}

-- `seen` or `unseen`
state-found : (rest : Rest) (b : Bool) → field_then seen_or_unseen rest ≡ Some b → rest ≡ Some (state_word b)
state-found rest b h =
    let f = field-found seen_or_unseen rest b h in
    f.2 ∙ ap (λ (l : List ℕ). Some l) (at f.0 f.1 (bytes_eq f.0 (codes "seen")) refl (bytes_eq f.0 (codes "unseen")) refl f.3)
  where
    same : (word spelled : List ℕ) → bytes_eq word spelled ≡ true → word ≡ spelled
    same word spelled t = (bytes_eq-Decides word spelled).0 t

    at : (word : List ℕ) (after : Rest) (s : Bool) → bytes_eq word (codes "seen") ≡ s → (u : Bool) → bytes_eq word (codes "unseen") ≡ u →
        cond s (ended false after) (cond u (ended true after) None) ≡ Some b → joined word after ≡ state_word b
    at word after true seen u unseen k =
        let e = ended-found false b after k in
        subst (λ (c : Bool). joined word after ≡ state_word c) e.1
        (subst (λ (r : Rest). joined word r ≡ codes "seen") (sym e.0) (same word (codes "seen") seen))
    at word after false seen true unseen k =
        let e = ended-found true b after k in
        subst (λ (c : Bool). joined word after ≡ state_word c) e.1
        (subst (λ (r : Rest). joined word r ≡ codes "unseen") (sym e.0) (same word (codes "unseen") unseen))
    at word after false seen false unseen k = absurd (none-some b k)

abbrev values_in : Option Bytes → List Bytes
values_in None = []
values_in (Some v) = v ∷ []

abbrev HasValue : Option Bytes → Type 0
HasValue None = Unit {0}
HasValue (Some v) = IsValue v

no-value : (o : Option Bytes) → not (is_some o) ≡ true → o ≡ None
no-value None h = refl
no-value (Some v) h = absurd (false≢true h)

module _ (version next : ℕ) where
  abbrev draft : Option Bytes → List ℕ → Kept Bool → Sketch
  draft last senders readers = sketch version last (live senders readers next)

  abbrev lines_of : Option Bytes → List ℕ → Kept Bool → List Bytes
  lines_of last senders readers = so_far (values_in last) senders (map standing readers)

  -- what was told comes in its order
  record IsInOrder (last : Option Bytes) (senders : List ℕ) (readers : Kept Bool) : Type 0 where
    value : HasValue last
    live : AreLive next senders (keys_of readers)
    first : last ≡ None → (senders ≡ []) × (readers ≡ [])

  record Told (line : Bytes) (before : List Bytes) (q : Sketch) : Type 0 where
    last : Option Bytes
    senders : List ℕ
    readers : Kept Bool
    is : q ≡ draft last senders readers
    in_order : IsInOrder last senders readers
    lines : lines_of last senders readers ≡ before ++ line ∷ []

  module _ (last : Option Bytes) (senders : List ℕ) (readers : Kept Bool) (o : IsInOrder last senders readers) where
    abbrev p : Sketch
    p = draft last senders readers

    -- what a line tells
    abbrev So : Bytes → Tells Sketch → Type 0
    So line (More q) = Told line (lines_of last senders readers) q
    So line Whole = (line ≡ codes "BEGIN") × (has_value p ≡ true)

    keeps : Finds So (codes "KEEP", λ rest. allowed (λ v. not (has_value p)) (λ v. More (with_value p v)) (value_last (λ v. v) rest))
    keeps rest a h =
        let f = allowed-found (λ (v : Bytes). not (has_value p)) (λ v. More (with_value p v)) (value_last (λ v. v) rest) a h in
        let v = value_last-found (λ (v : List ℕ). v) rest f.0 f.1 in
        let none : last ≡ None = no-value last f.2 in
        let no = o.first none in
        let value : IsValue f.0 = subst IsValue v.3 v.2 in
        let before : lines_of last senders readers ≡ so_far [] [] [] =
        ap (λ (l : Option Bytes). lines_of l senders readers) none ∙ ap (λ (l : List ℕ). lines_of None l readers) no.0
        ∙ ap (λ (l : Kept Bool). lines_of None [] l) no.1 in
        let after : lines_of (Some f.0) senders readers ≡ so_far (f.0 ∷ []) [] [] =
        ap (λ (l : List ℕ). lines_of (Some f.0) l readers) no.0 ∙ ap (λ (l : Kept Bool). lines_of (Some f.0) [] l) no.1 in
        let line : Bytes → Type 0 = λ bytes. So bytes (More (with_value p f.0)) in
        let so : line (kept_line f.0) = record {
          last = Some f.0;
          senders = senders;
          readers = readers;
          is = refl;
          in_order = record { value = value; live = o.live; first = λ e. no };
          lines = after ∙ kept-more [] f.0 ∙ ap (λ (l : List Bytes). l ++ kept_line f.0 ∷ []) (sym before);
        } in
        let bytes : joined (codes "KEEP") rest ≡ kept_line f.0 =
        ap (λ (r : Rest). joined (codes "KEEP") r) v.1 ∙ ap kept_line v.3 in
        subst (λ (t : Tells Sketch). So (joined (codes "KEEP") rest) t) f.3 (subst line (sym bytes) so)

    -- once a handle is told the value is
    filled : has_value p ≡ true → last ≡ None → ⊥
    filled h none = false≢true (sym (ap (λ (l : Option Bytes). is_some l) none) ∙ h)

    txs : Finds So (
      codes "TX",
      λ rest. allowed (takes_sender (has_value p) (handles p))
          (λ tx. More (with_handles p (with_tx (handles p) tx))) (number_last (λ tx. tx) rest),
    )
    txs rest a h =
        let f = allowed-found (takes_sender (has_value p) (handles p)) (λ tx. More (with_handles p (with_tx (handles p) tx)))
        (number_last (λ (tx : ℕ). tx) rest) a h in
        let n = number_last-found (λ (tx : ℕ). tx) rest f.0 f.1 in
        let b = and_parts (has_value p) _ f.2 in
        let d = and_parts _ _ b.1 in
        let none : readers ≡ [] = none_of readers d.0 in
        let snoc-is = with_sender-new senders f.0 (above next senders f.0 o.live.by_sender d.1) in
        let line : Bytes → Type 0 = λ bytes. So bytes (More (with_handles p (with_tx (handles p) f.0))) in
        let so : line (sender_line f.0) = record {
          last = last;
          senders = senders ++ f.0 ∷ [];
          readers = readers;
          is = ap (λ (l : List ℕ). draft last l readers) snoc-is;
          in_order = record {
            value = o.value;
            live = subst (λ (l : List ℕ). AreLive next l (keys_of readers)) snoc-is
                (sender-told (has_value p) (handles p) o.live f.0 f.2);
            first = λ e. absurd (filled b.0 e);
          };
          lines = ap (λ (l : Kept Bool). lines_of last (senders ++ f.0 ∷ []) l) none ∙ sender-more (values_in last) senders f.0
              ∙ ap (λ (l : Kept Bool). lines_of last senders l ++ sender_line f.0 ∷ []) (sym none);
        } in
        let bytes : joined (codes "TX") rest ≡ sender_line f.0 =
        ap (λ (r : Rest). joined (codes "TX") r) n.1 ∙ ap sender_line n.3 in
        subst (λ (t : Tells Sketch). So (joined (codes "TX") rest) t) f.3 (subst line (sym bytes) so)

    rxs : Finds So (
      codes "RX",
      λ rest. allowed (λ (rx : ℕ × Bool). takes_receiver (has_value p) (handles p) rx.0)
          (λ rx. More (with_handles p (with_rx (handles p) rx))) (reader_last rest),
    )
    rxs rest a h =
        let f = allowed-found (λ (rx : ℕ × Bool). takes_receiver (has_value p) (handles p) rx.0)
        (λ rx. More (with_handles p (with_rx (handles p) rx))) (reader_last rest) a h in
        let pair : ℕ → Bool → ℕ × Bool = λ n u. (n, u) in
        let state : ℕ → Rest → Option (ℕ × Bool) = λ n r. option_map (pair n) (field_then seen_or_unseen r) in
        let n = number_then-found state rest f.0 f.1 in
        let m = mapped (pair n.0) (field_then seen_or_unseen n.1) f.0 n.4 in
        let b = and_parts (has_value p) _ f.2 in
        let d = and_parts _ _ b.1 in
        let snoc-is = entry-last readers f.0.0 f.0.1 (above next (keys_of readers) f.0.0 o.live.by_receiver d.0) in
        let line : Bytes → Type 0 = λ bytes. So bytes (More (with_handles p (with_rx (handles p) f.0))) in
        let so : line (receiver_line (standing f.0)) = record {
          last = last;
          senders = senders;
          readers = readers ++ f.0 ∷ [];
          is = ap (λ (l : Kept Bool). draft last senders l) snoc-is;
          in_order = record {
            value = o.value;
            live = subst (λ (l : Kept Bool). AreLive next senders (keys_of l)) snoc-is
                (receiver-told (has_value p) (handles p) o.live f.0.0 f.0.1 f.2);
            first = λ e. absurd (filled b.0 e);
          };
          lines = ap (λ (l : List (ℕ × Bytes)). so_far (values_in last) senders l) (map-append standing readers (f.0 ∷ []))
              ∙ receiver-more (values_in last) senders (map standing readers) (standing f.0);
        } in
        let bytes : joined (codes "RX") rest ≡ receiver_line (standing f.0) =
        ap (λ (r : Rest). joined (codes "RX") r) (n.2 ∙ ap (λ (r : Rest). Some (joined (decimal n.0) r)) (state-found n.1 m.0 m.1))
        ∙ ap (λ (rx : ℕ × Bool). receiver_line (standing rx)) m.2 in
        subst (λ (t : Tells Sketch). So (joined (codes "RX") rest) t) f.3 (subst line (sym bytes) so)

    begins : Finds So (codes "BEGIN", λ rest. allowed (λ w. has_value p) (λ w. w) (ended Whole rest))
    begins rest a h =
        let f = allowed-found (λ (w : Tells Sketch). has_value p) (λ w. w) (ended Whole rest) a h in
        let e = ended-found Whole f.0 rest f.1 in
        subst (λ (t : Tells Sketch). So (joined (codes "BEGIN") rest) t) (e.1 ∙ f.3)
        (ap (λ (r : Rest). joined (codes "BEGIN") r) e.0, f.2)

    line-tells : (line : Bytes) (told : Tells Sketch) → by_table (body p) line ≡ Some told → So line told
    unfolding body
    line-tells line told h = by_table-found So (body p) (table-finds So (body p) (keeps & txs & rxs & begins & tt)) line told h

  record Drew (before lines : List Bytes) (h : Head) (q : Picture) : Type 0 where
    value : Bytes
    senders : List ℕ
    readers : Kept Bool
    head_is : h ≡ head.Watch
    is : q ≡ picture.Watch (shown_picture version value readers senders next)
    in_order : IsInOrder (Some value) senders readers
    lines_are : before ++ lines ≡ lines_of (Some value) senders readers ++ codes "BEGIN" ∷ []

  drew : (before lines : List Bytes) (h : Head) (q : Picture) (last : Option Bytes) (senders : List ℕ) (readers : Kept Bool) →
      IsInOrder last senders readers → before ≡ lines_of last senders readers →
      leads (InWatch (draft last senders readers)) lines ≡ Some (Begun h q) → Drew before lines h q
  unfolding step
  drew before [] h q last senders readers o is leads-to = absurd (not-begun (InWatch (draft last senders readers)) h q leads-to)
  drew before (line ∷ lines) h q last senders readers o is leads-to =
      at (by_table (body (draft last senders readers)) line) refl leads-to (λ b l s r. drew b lines h q l s r)
    where
      Later : Type 0
      Later = (b : List Bytes) (l : Option Bytes) (s : List ℕ) (r : Kept Bool) → IsInOrder l s r → b ≡ lines_of l s r →
          leads (InWatch (draft l s r)) lines ≡ Some (Begun h q) → Drew b lines h q

      ended-at : (v : Bytes) (more : List Bytes) → last ≡ Some v → line ≡ codes "BEGIN" →
          goes_on (Some (whole_watch (draft last senders readers) v)) more (λ next. leads next more) ≡ Some (Begun h q) →
          Drew before (line ∷ more) h q
      ended-at v [] value begin k =
          let same = begun-same head.Watch h (picture.Watch (shown_picture version v readers senders next)) q k in
          record {
            value = v;
            senders = senders;
            readers = readers;
            head_is = sym same.0;
            is = sym same.1;
            in_order = subst (λ (l : Option Bytes). IsInOrder l senders readers) value o;
            lines_are = ap (λ (l : List Bytes). l ++ line ∷ []) is ∙ ap (λ (l : Bytes). lines_of last senders readers ++ l ∷ []) begin
                ∙ ap (λ (l : Option Bytes). lines_of l senders readers ++ codes "BEGIN" ∷ []) value;
          }
      ended-at v (x ∷ xs) value begin k = absurd (none-some (Begun h q) k)

      by-value : (value : Option Bytes) → last ≡ value → line ≡ codes "BEGIN" →
          goes_on (option_map (whole_watch (draft last senders readers)) value) lines (λ next. leads next lines) ≡ Some (Begun h q) →
          Drew before (line ∷ lines) h q
      by-value None value begin k = absurd (none-some (Begun h q) k)
      by-value (Some v) value begin k = ended-at v lines value begin k

      at : (told : Option (Tells Sketch)) → by_table (body (draft last senders readers)) line ≡ told →
          goes_on (if_told (watch_next (draft last senders readers)) told) lines (λ next. leads next lines)
          ≡ Some (Begun h q) → Later → Drew before (line ∷ lines) h q
      at None e k later = absurd (none-some (Begun h q) k)
      at (Some (More d)) e k later =
          let t = line-tells last senders readers o line (More d) e in
          let further : before ++ line ∷ [] ≡ lines_of t.last t.senders t.readers =
          ap (λ (l : List Bytes). l ++ line ∷ []) is ∙ sym t.lines in
          let r = later (before ++ line ∷ []) t.last t.senders t.readers t.in_order further
          (subst (λ (x : Sketch). leads (InWatch x) lines ≡ Some (Begun h q)) t.is k) in
          record {
            value = r.value;
            senders = r.senders;
            readers = r.readers;
            head_is = r.head_is;
            is = r.is;
            in_order = r.in_order;
            lines_are = sym (append_assoc before (line ∷ []) lines) ∙ r.lines_are;
          }
      at (Some Whole) e k later = (let t = line-tells last senders readers o line Whole e in by-value last refl t.0 k)

-- the line of the start
record Starts (bytes : Bytes) (p : Sketch) : Type 0 where
  version : ℕ
  next : ℕ
  is : p ≡ sketch version None (live [] [] next)
  line_is : bytes ≡ start_of (start version) next
  version_first : 0 < version
  version_fits : version < 2 ^ 64
  next_first : 0 < next
  next_fits : next < 2 ^ 64

start-finds : Finds Starts (codes "AT", read_start)
start-finds rest p h =
    let pair : ℕ → ℕ → ℕ × ℕ = λ a b. (a, b) in
    let last : ℕ → Rest → Option (ℕ × ℕ) = λ a rest. option_map (pair a) (next_last rest) in
    let made : ℕ × ℕ → Sketch = λ s. sketch s.0 None (live [] [] s.1) in
    let f = allowed-found (λ (s : ℕ × ℕ). nat_lt 0 s.0 && nat_lt 0 s.1) made (number_then last rest) p h in
    let n = number_then-found last rest f.0 f.1 in
    let x = mapped (pair n.0) (next_last n.1) f.0 n.4 in
    let y = next-found n.1 x.0 x.1 in
    let may : (nat_lt 0 n.0 && nat_lt 0 x.0) ≡ true = ap (λ (s : ℕ × ℕ). nat_lt 0 s.0 && nat_lt 0 s.1) x.2 ∙ f.2 in
    let b = and_parts _ _ may in
    record {
      version = n.0;
      next = x.0;
      is = sym (ap made x.2 ∙ f.3);
      line_is = ap (λ (r : Rest). joined (codes "AT") r) (n.2 ∙ ap (λ (r : Rest). Some (joined (decimal n.0) r)) y.0);
      version_first = ltb-true 0 n.0 b.0;
      version_fits = n.3;
      next_first = ltb-true 0 x.0 b.1;
      next_fits = y.1;
    }

starts : (line : Bytes) (p : Sketch) → by_table ((codes "AT", read_start) ∷ []) line ≡ Some p → Starts line p
starts line p h =
    by_table-found Starts ((codes "AT", read_start) ∷ [])
    (table-finds Starts ((codes "AT", read_start) ∷ []) (start-finds & tt)) line p h

-- what follows the first line of a watch trace
pub spelled : (lines : List Bytes) (h : Head) (q : Picture) → leads WatchHeaded lines ≡ Some (Begun h q) →
    Spells h q (Spelled.line head_fields ∷ lines)
unfolding step
spelled [] h q k = absurd (not-begun WatchHeaded h q k)
spelled (line ∷ lines) h q k = at (by_table ((codes "AT", read_start) ∷ []) line) refl k
  where
    at : (told : Option Sketch) → by_table ((codes "AT", read_start) ∷ []) line ≡ told →
        goes_on (option_map On (option_map InWatch told)) lines (λ next. leads next lines) ≡ Some (Begun h q) →
        Spells h q (Spelled.line head_fields ∷ line ∷ lines)
    at None e k = absurd (none-some (Begun h q) k)
    at (Some p) e k =
        let s = starts line p e in
        let none : IsInOrder s.version s.next None [] [] = record {
          value = tt;
          live = record {
            first = s.next_first;
            fits = s.next_fits;
            by_sender = record { rising = tt; given = tt; few = omega arith };
            by_receiver = record { rising = tt; given = tt; few = omega arith };
            apart = tt;
          };
          first = λ e. (refl, refl);
        } in
        let d = drew s.version s.next [] lines h q None [] [] none refl
        (subst (λ (x : Sketch). leads (InWatch x) lines ≡ Some (Begun h q)) s.is k) in
        let shown = shown_picture s.version d.value d.readers d.senders s.next in
        let sound : IsSound shown = record { first = s.version_first; version = s.version_fits; handles = d.in_order.live } in
        let below : lines ≡ map kept_line (d.value ∷ [])
        ++ (map sender_line d.senders ++ (map receiver_line (map standing d.readers) ++ codes "BEGIN" ∷ [])) =
        d.lines_are
        ∙ append_assoc (map kept_line (d.value ∷ [])) (map sender_line d.senders ++ map receiver_line (map standing d.readers))
        (codes "BEGIN" ∷ [])
        ∙ ap (λ (l : List Bytes). map kept_line (d.value ∷ []) ++ l)
        (append_assoc (map sender_line d.senders) (map receiver_line (map standing d.readers)) (codes "BEGIN" ∷ [])) in
        let all : (Spelled.line head_fields ∷ line ∷ lines) ≡ picture_lines (told shown) =
        ap (λ (l : Bytes). Spelled.line head_fields ∷ l ∷ lines) s.line_is
        ∙ ap (λ (l : List Bytes). Spelled.line head_fields ∷ start_of (start s.version) s.next ∷ l) below in
        subst (λ (x : Head). Spells x q (Spelled.line head_fields ∷ line ∷ lines)) (sym d.head_is)
        (subst (λ (x : Picture). Spells head.Watch x (Spelled.line head_fields ∷ line ∷ lines)) (sym d.is)
        (sound, d.in_order.value, all))
