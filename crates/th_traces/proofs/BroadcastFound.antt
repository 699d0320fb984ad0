-- What is read as a broadcast picture is its spelling.
use Rattle.std.proofs.Common.{◌≡◌, ℕ, ◌-◌, ◌<◌, ◌≤◌, ◌^◌, Bool, true, false, List, [], ◌∷◌, ◌++◌, length, map, refl, sym, ap, ◌∙◌, Option, Some, None, subst, arith, append_assoc, append-nil, length-append}
use Rattle.std.specs.Prelude.{codes, nat_le}
use Rattle.std.specs.Option.{option_map}
use Rattle.std.specs.Fmt.{decimal}
use Rattle.std.specs.List.{AllByRecursion}
use Rattle.std.specs.Map.{keys_of}
use Rattle.std.proofs.lemmas.Bool.{eqb-true, false≢true, leb-true, ltb-true}
use Rattle.std.proofs.lemmas.List.{map-append}
use Rattle.std.proofs.lemmas.Option.{none-some, same_Some}
use Rattle.th_model.specs.BroadcastPicture.{IsSound}
use Rattle.th_model.specs.Handles.{AreLive}
use Rattle.th_model.specs.Limits.{IsCapacity}
use Rattle.th_model.specs.Places.{ArePlaces, Places, low_of}
use Rattle.th_model.proofs.HandleLemmas.{with_sender-new}
use Rattle.th_model.proofs.PlaceLemmas.{places-with}
use Rattle.th_lines.specs.Commands.{IsValue}
use Rattle.th_lines.specs.Fields.{Rest, by_word, ended, number_last, number_then, value_last}
use Rattle.th_lines.proofs.Grammar.{Finds, ended-found, field-found, joined, mapped, number_last-finds, number_last-found, number_then-found, table-finds, value_last-found}
use Rattle.th_lines.proofs.Numbers.{and_parts}
use Rattle.th_lines.proofs.Tables.{◌&◌}
use Rattle.th_traces.specs.declared.head.Head.{Head}
use Rattle.th_traces.specs.declared.head.Head.TheVariants as head
use Rattle.th_traces.specs.declared.head.Version.{Version}
use Rattle.th_traces.specs.declared.picture.Picture.{Picture}
use Rattle.th_traces.specs.declared.picture.Picture.TheVariants as picture
use Rattle.th_traces.specs.declared.place.Place.{Place}
use Rattle.th_traces.specs.declared.place.Place.TheVariants.{Headed, InBroadcast}
use Rattle.th_traces.specs.Broadcast.{head as head_fields, standing, start, told}
use Rattle.th_traces.specs.BroadcastDrafts.{Drawn, body, handles, has_values, is_whole, may_start, parts, place_last, start as read_start, takes_value, with_handles, with_value}
use Rattle.th_traces.specs.Drafts.{More, Tells, Whole, allowed}
use Rattle.th_traces.specs.LiveHandles.{live, next_last, takes_receiver, takes_sender, with_rx, with_tx}
use Rattle.th_traces.specs.Pictures.{Begun, Next, On, broadcast_next, goes_on, leads, step}
use Rattle.th_traces.specs.Shown.{Spells}
use Rattle.th_traces.specs.Spelled as Spelled
use Rattle.th_traces.specs.Spelled.{Bytes, kept_line, picture_lines, receiver_line, sender_line, start_of}
use Rattle.th_traces.specs.Tables.{Table, by_table}
use Rattle.th_traces.proofs.Begun.{allowed-found}
use Rattle.th_traces.proofs.Entries.{by_table-found}
use Rattle.th_traces.proofs.Further.{above, all-snoc, entry-last, none_of}
use Rattle.th_traces.proofs.Telling.{receiver-told, sender-told}

-- the lines below that of the start, without the last one
abbrev pub so_far : List Bytes → List ℕ → List (ℕ × Bytes) → List Bytes
so_far kept senders receivers = map kept_line kept ++ (map sender_line senders ++ map receiver_line receivers)

snoc : {X : Type 0} (f : X → Bytes) (xs : List X) (x : X) → map f (xs ++ x ∷ []) ≡ map f xs ++ f x ∷ []
snoc f xs x = map-append f xs (x ∷ [])

-- one line more, in each of the three groups
pub kept-more : (kept : List Bytes) (v : Bytes) → so_far (kept ++ v ∷ []) [] [] ≡ so_far kept [] [] ++ kept_line v ∷ []
kept-more kept v = append-nil (map kept_line (kept ++ v ∷ [])) ∙ snoc kept_line kept v
    ∙ ap (λ (l : List Bytes). l ++ kept_line v ∷ []) (sym (append-nil (map kept_line kept)))

pub sender-more : (kept : List Bytes) (senders : List ℕ) (tx : ℕ) →
    so_far kept (senders ++ tx ∷ []) [] ≡ so_far kept senders [] ++ sender_line tx ∷ []
sender-more kept senders tx =
    ap (λ (l : List Bytes). map kept_line kept ++ l) (append-nil (map sender_line (senders ++ tx ∷ [])) ∙ snoc sender_line senders tx)
    ∙ sym (append_assoc (map kept_line kept) (map sender_line senders) (sender_line tx ∷ []))
    ∙ ap (λ (l : List Bytes). (map kept_line kept ++ l) ++ sender_line tx ∷ []) (sym (append-nil (map sender_line senders)))

pub receiver-more : (kept : List Bytes) (senders : List ℕ) (rxs : List (ℕ × Bytes)) (rx : ℕ × Bytes) →
    so_far kept senders (rxs ++ rx ∷ []) ≡ so_far kept senders rxs ++ receiver_line rx ∷ []
receiver-more kept senders rxs rx =
    ap (λ (l : List Bytes). map kept_line kept ++ (map sender_line senders ++ l)) (snoc receiver_line rxs rx)
    ∙ ap (λ (l : List Bytes). map kept_line kept ++ l)
    (sym (append_assoc (map sender_line senders) (map receiver_line rxs) (receiver_line rx ∷ [])))
    ∙ sym (append_assoc (map kept_line kept) (map sender_line senders ++ map receiver_line rxs) (receiver_line rx ∷ []))

pub begun-same : (h i : Head) (p q : Picture) → Some (Begun h p) ≡ Some (Begun i q) → (h ≡ i) × (p ≡ q)
begun-same h i p q e = (ap head_in (same_Some _ _ e), ap picture_in (same_Some _ _ e))
  where
    head_in : Next → Head
    head_in (On place) = h
    head_in (Begun i q) = i

    picture_in : Next → Picture
    picture_in (On place) = p
    picture_in (Begun i q) = q

pub not-begun : (place : Place) (h : Head) (q : Picture) → Some (On place) ≡ Some (Begun h q) → ⊥
not-begun place h q e = false≢true (ap is_begun (same_Some _ _ e))
  where
    is_begun : Next → Bool
    is_begun (On place) = false
    is_begun (Begun i q) = true

module _ (version : Version) (c low tail next : ℕ) where
  abbrev pub draft : List Bytes → List ℕ → Places → Drawn
  draft kept senders places = parts c low tail kept (live senders places next)

  abbrev pub lines_of : List Bytes → List ℕ → Places → List Bytes
  lines_of kept senders places = so_far kept senders (map standing places)

  -- what was told comes in its order
  pub record IsInOrder (kept : List Bytes) (senders : List ℕ) (places : Places) : Type 0 where
    pub values : AllByRecursion IsValue kept
    pub few : length kept ≤ tail - low
    pub live : AreLive next senders (keys_of places)
    pub within : ArePlaces tail places
    pub first : length kept < tail - low → (senders ≡ []) × (places ≡ [])

  pub record Told (line : Bytes) (before : List Bytes) (q : Drawn) : Type 0 where
    pub kept : List Bytes
    pub senders : List ℕ
    pub places : Places
    pub is : q ≡ draft kept senders places
    pub in_order : IsInOrder kept senders places
    pub lines : lines_of kept senders places ≡ before ++ line ∷ []

  module _ (kept : List Bytes) (senders : List ℕ) (places : Places) (o : IsInOrder kept senders places) where
    abbrev p : Drawn
    p = draft kept senders places

    -- what a line tells
    abbrev So : Bytes → Tells Drawn → Type 0
    So line (More q) = Told line (lines_of kept senders places) q
    So line Whole = (line ≡ codes "BEGIN") × (is_whole p ≡ true)

    keeps : Finds So (codes "KEEP", λ rest. allowed (λ v. takes_value p) (λ v. More (with_value p v)) (value_last (λ v. v) rest))
    keeps rest a h =
        let f = allowed-found (λ (v : Bytes). takes_value p) (λ v. More (with_value p v)) (value_last (λ v. v) rest) a h in
        let v = value_last-found (λ (v : List ℕ). v) rest f.0 f.1 in
        let lt = ltb-true (length kept) (tail - low) f.2 in
        let none = o.first lt in
        let value : IsValue f.0 = subst IsValue v.3 v.2 in
        let before : lines_of kept senders places ≡ so_far kept [] [] =
        ap (λ (l : List ℕ). lines_of kept l places) none.0 ∙ ap (λ (l : Places). lines_of kept [] l) none.1 in
        let after : lines_of (kept ++ f.0 ∷ []) senders places ≡ so_far (kept ++ f.0 ∷ []) [] [] =
        ap (λ (l : List ℕ). lines_of (kept ++ f.0 ∷ []) l places) none.0 ∙ ap (λ (l : Places). lines_of (kept ++ f.0 ∷ []) [] l) none.1 in
        let line : Bytes → Type 0 = λ bytes. So bytes (More (with_value p f.0)) in
        let so : line (kept_line f.0) = record {
          kept = kept ++ f.0 ∷ [];
          senders = senders;
          places = places;
          is = refl;
          in_order = record {
            values = all-snoc IsValue kept f.0 o.values value;
            few = omega (arith, length-append kept (f.0 ∷ []), lt);
            live = o.live;
            within = o.within;
            first = λ less. none;
          };
          lines = after ∙ kept-more kept f.0 ∙ ap (λ (l : List Bytes). l ++ kept_line f.0 ∷ []) (sym before);
        } in
        let bytes : joined (codes "KEEP") rest ≡ kept_line f.0 =
        ap (λ (r : Rest). joined (codes "KEEP") r) v.1 ∙ ap kept_line v.3 in
        subst (λ (t : Tells Drawn). So (joined (codes "KEEP") rest) t) f.3 (subst line (sym bytes) so)

    -- once a handle is told all values are
    filled : has_values p ≡ true → length kept < tail - low → ⊥
    filled h lt = omega (arith, eqb-true (length kept) (tail - low) h, lt)

    txs : Finds So (
      codes "TX",
      λ rest. allowed (takes_sender (has_values p) (handles p))
          (λ tx. More (with_handles p (with_tx (handles p) tx))) (number_last (λ tx. tx) rest),
    )
    txs rest a h =
        let f = allowed-found (takes_sender (has_values p) (handles p)) (λ tx. More (with_handles p (with_tx (handles p) tx)))
        (number_last (λ (tx : ℕ). tx) rest) a h in
        let n = number_last-found (λ (tx : ℕ). tx) rest f.0 f.1 in
        let b = and_parts (has_values p) _ f.2 in
        let d = and_parts _ _ b.1 in
        let none : places ≡ [] = none_of places d.0 in
        let snoc-is = with_sender-new senders f.0 (above next senders f.0 o.live.by_sender d.1) in
        let line : Bytes → Type 0 = λ bytes. So bytes (More (with_handles p (with_tx (handles p) f.0))) in
        let so : line (sender_line f.0) = record {
          kept = kept;
          senders = senders ++ f.0 ∷ [];
          places = places;
          is = ap (λ (l : List ℕ). draft kept l places) snoc-is;
          in_order = record {
            values = o.values;
            few = o.few;
            live = subst (λ (l : List ℕ). AreLive next l (keys_of places)) snoc-is
                (sender-told (has_values p) (handles p) o.live f.0 f.2);
            within = o.within;
            first = λ less. absurd (filled b.0 less);
          };
          lines = ap (λ (l : Places). lines_of kept (senders ++ f.0 ∷ []) l) none ∙ sender-more kept senders f.0
              ∙ ap (λ (l : Places). lines_of kept senders l ++ sender_line f.0 ∷ []) (sym none);
        } in
        let bytes : joined (codes "TX") rest ≡ sender_line f.0 =
        ap (λ (r : Rest). joined (codes "TX") r) n.1 ∙ ap sender_line n.3 in
        subst (λ (t : Tells Drawn). So (joined (codes "TX") rest) t) f.3 (subst line (sym bytes) so)

    rxs : Finds So (
      codes "RX",
      λ rest. allowed (λ (rx : ℕ × ℕ). takes_receiver (has_values p) (handles p) rx.0)
          (λ rx. More (with_handles p (with_rx (handles p) rx))) (place_last p rest),
    )
    rxs rest a h =
        let f = allowed-found (λ (rx : ℕ × ℕ). takes_receiver (has_values p) (handles p) rx.0)
        (λ rx. More (with_handles p (with_rx (handles p) rx))) (place_last p rest) a h in
        let pair : ℕ → ℕ → ℕ × ℕ = λ n m. (n, m) in
        let g = allowed-found (λ (rx : ℕ × ℕ). nat_le rx.1 tail) (λ (rx : ℕ × ℕ). rx) (number_then (λ n. number_last (pair n)) rest)
        f.0 f.1 in
        let n = number_then-found (λ (n : ℕ). number_last (pair n)) rest g.0 g.1 in
        let m = number_last-found (pair n.0) n.1 g.0 n.4 in
        let rx-is : (n.0, m.0) ≡ f.0 = m.3 ∙ g.3 in
        let b = and_parts (has_values p) _ f.2 in
        let d = and_parts _ _ b.1 in
        let within : f.0.1 ≤ tail = subst (λ (rx : ℕ × ℕ). rx.1 ≤ tail) g.3 (leb-true g.0.1 tail g.2) in
        let snoc-is = entry-last places f.0.0 f.0.1 (above next (keys_of places) f.0.0 o.live.by_receiver d.0) in
        let line : Bytes → Type 0 = λ bytes. So bytes (More (with_handles p (with_rx (handles p) f.0))) in
        let so : line (receiver_line (standing f.0)) = record {
          kept = kept;
          senders = senders;
          places = places ++ f.0 ∷ [];
          is = ap (λ (l : Places). draft kept senders l) snoc-is;
          in_order = record {
            values = o.values;
            few = o.few;
            live = subst (λ (l : Places). AreLive next senders (keys_of l)) snoc-is
                (receiver-told (has_values p) (handles p) o.live f.0.0 f.0.1 f.2);
            within = subst (λ (l : Places). ArePlaces tail l) snoc-is (places-with tail places f.0.0 f.0.1 o.within within);
            first = λ less. absurd (filled b.0 less);
          };
          lines = ap (λ (l : List (ℕ × Bytes)). so_far kept senders l) (map-append standing places (f.0 ∷ []))
              ∙ receiver-more kept senders (map standing places) (standing f.0);
        } in
        let bytes : joined (codes "RX") rest ≡ receiver_line (standing f.0) =
        ap (λ (r : Rest). joined (codes "RX") r) (n.2 ∙ ap (λ (r : Rest). Some (joined (decimal n.0) r)) m.1)
        ∙ ap (λ (rx : ℕ × ℕ). receiver_line (standing rx)) rx-is in
        subst (λ (t : Tells Drawn). So (joined (codes "RX") rest) t) f.3 (subst line (sym bytes) so)

    begins : Finds So (codes "BEGIN", λ rest. allowed (λ w. is_whole p) (λ w. w) (ended Whole rest))
    begins rest a h =
        let f = allowed-found (λ (w : Tells Drawn). is_whole p) (λ w. w) (ended Whole rest) a h in
        let e = ended-found Whole f.0 rest f.1 in
        subst (λ (t : Tells Drawn). So (joined (codes "BEGIN") rest) t) (e.1 ∙ f.3)
        (ap (λ (r : Rest). joined (codes "BEGIN") r) e.0, f.2)

    line-tells : (line : Bytes) (told : Tells Drawn) → by_table (body p) line ≡ Some told → So line told
    unfolding body
    line-tells line told h = by_table-found So (body p) (table-finds So (body p) (keeps & txs & rxs & begins & tt)) line told h

  pub record Drew (before lines : List Bytes) (h : Head) (q : Picture) : Type 0 where
    pub kept : List Bytes
    pub senders : List ℕ
    pub places : Places
    pub head_is : h ≡ head.Broadcast version
    pub is : q ≡ picture.Broadcast (draft kept senders places)
    pub in_order : IsInOrder kept senders places
    pub whole : is_whole (draft kept senders places) ≡ true
    pub lines_are : before ++ lines ≡ lines_of kept senders places ++ codes "BEGIN" ∷ []

  pub drew : (before lines : List Bytes) (h : Head) (q : Picture) (kept : List Bytes) (senders : List ℕ) (places : Places) →
      IsInOrder kept senders places → before ≡ lines_of kept senders places →
      leads (InBroadcast version (draft kept senders places)) lines ≡ Some (Begun h q) → Drew before lines h q
  unfolding step
  drew before [] h q kept senders places o is leads-to = absurd (not-begun (InBroadcast version (draft kept senders places)) h q leads-to)
  drew before (line ∷ lines) h q kept senders places o is leads-to =
      at (by_table (body (draft kept senders places)) line) refl leads-to (λ b k s p. drew b lines h q k s p)
    where
      Later : Type 0
      Later = (b : List Bytes) (k : List Bytes) (s : List ℕ) (p : Places) → IsInOrder k s p → b ≡ lines_of k s p →
          leads (InBroadcast version (draft k s p)) lines ≡ Some (Begun h q) → Drew b lines h q

      at : (told : Option (Tells Drawn)) → by_table (body (draft kept senders places)) line ≡ told →
          goes_on (option_map (broadcast_next version (draft kept senders places)) told) lines (λ next. leads next lines)
          ≡ Some (Begun h q) → Later → Drew before (line ∷ lines) h q
      at None e k later = absurd (none-some (Begun h q) k)
      at (Some (More d)) e k later =
          let t = line-tells kept senders places o line (More d) e in
          let further : before ++ line ∷ [] ≡ lines_of t.kept t.senders t.places =
          ap (λ (l : List Bytes). l ++ line ∷ []) is ∙ sym t.lines in
          let r = later (before ++ line ∷ []) t.kept t.senders t.places t.in_order further
          (subst (λ (x : Drawn). leads (InBroadcast version x) lines ≡ Some (Begun h q)) t.is k) in
          record {
            kept = r.kept;
            senders = r.senders;
            places = r.places;
            head_is = r.head_is;
            is = r.is;
            in_order = r.in_order;
            whole = r.whole;
            lines_are = sym (append_assoc before (line ∷ []) lines) ∙ r.lines_are;
          }
      at (Some Whole) e k later = ended-at lines k
        where
          ended-at : (more : List Bytes) →
              goes_on (Some (Begun (head.Broadcast version) (picture.Broadcast (draft kept senders places)))) more
              (λ next. leads next more) ≡ Some (Begun h q) → Drew before (line ∷ more) h q
          ended-at [] k =
              let t = line-tells kept senders places o line Whole e in
              let same = begun-same (head.Broadcast version) h (picture.Broadcast (draft kept senders places)) q k in
              record {
                kept = kept;
                senders = senders;
                places = places;
                head_is = sym same.0;
                is = sym same.1;
                in_order = o;
                whole = t.1;
                lines_are = ap (λ (l : List Bytes). l ++ line ∷ []) is ∙ ap (λ (l : Bytes). lines_of kept senders places ++ l ∷ []) t.0;
              }
          ended-at (x ∷ xs) k = absurd (none-some (Begun h q) k)

-- `NEXT next`
pub next-found : (rest : Rest) (next : ℕ) → next_last rest ≡ Some next → (rest ≡ Some (codes "NEXT" ++ 32 ∷ decimal next)) × (next < 2 ^ 64)
next-found rest next h =
    let f = field-found (by_word next_word) rest next h in
    let t = table-finds IsNextWord next_word (number_last-finds IsNextWord (codes "NEXT") (λ (n : ℕ). n) (λ n fits. (refl, fits)) & tt)
    f.0 f.1 next f.3 in
    (f.2 ∙ ap (λ (l : List ℕ). Some l) t.0, t.1)
  where
    next_word : Table ℕ
    next_word = (codes "NEXT", number_last (λ next. next)) ∷ []

    IsNextWord : List ℕ → ℕ → Type 0
    IsNextWord bytes n = (bytes ≡ codes "NEXT" ++ 32 ∷ decimal n) × (n < 2 ^ 64)

-- the line of the start
pub record Starts (c : ℕ) (bytes : Bytes) (p : Drawn) : Type 0 where
  pub low : ℕ
  pub tail : ℕ
  pub next : ℕ
  pub is : p ≡ parts c low tail [] (live [] [] next)
  pub line_is : bytes ≡ start_of (start low tail) next
  pub low_fits : low ≤ tail
  pub tail_fits : tail < 2 ^ 64
  pub next_first : 0 < next
  pub next_fits : next < 2 ^ 64

start-finds : (c : ℕ) → Finds (Starts c) (codes "AT", read_start c)
start-finds c rest p h =
    let triple : ℕ → ℕ → ℕ → ℕ × ℕ × ℕ = λ a b d. (a, b, d) in
    let last : ℕ → ℕ → Rest → Option (ℕ × ℕ × ℕ) = λ a b rest. option_map (triple a b) (next_last rest) in
    let made : ℕ × ℕ × ℕ → Drawn = λ s. parts c s.0 s.1 [] (live [] [] s.2) in
    let f = allowed-found (λ (s : ℕ × ℕ × ℕ). may_start c s.0 s.1 s.2) made
    (number_then (λ low. number_then (last low)) rest) p h in
    let n = number_then-found (λ low. number_then (last low)) rest f.0 f.1 in
    let m = number_then-found (last n.0) n.1 f.0 n.4 in
    let x = mapped (triple n.0 m.0) (next_last m.1) f.0 m.4 in
    let y = next-found m.1 x.0 x.1 in
    let may : may_start c n.0 m.0 x.0 ≡ true = ap (λ (s : ℕ × ℕ × ℕ). may_start c s.0 s.1 s.2) x.2 ∙ f.2 in
    let b = and_parts _ _ may in
    let d = and_parts _ _ b.1 in
    record {
      low = n.0;
      tail = m.0;
      next = x.0;
      is = sym (ap made x.2 ∙ f.3);
      line_is = ap (λ (r : Rest). joined (codes "AT") r) (n.2 ∙ ap (λ (r : Rest). Some (joined (decimal n.0) r)) (m.2
          ∙ ap (λ (r : Rest). Some (joined (decimal m.0) r)) y.0));
      low_fits = leb-true n.0 m.0 b.0;
      tail_fits = m.3;
      next_first = ltb-true 0 x.0 d.1;
      next_fits = y.1;
    }

pub starts : (c : ℕ) (line : Bytes) (p : Drawn) → by_table ((codes "AT", read_start c) ∷ []) line ≡ Some p → Starts c line p
starts c line p h =
    by_table-found (Starts c) ((codes "AT", read_start c) ∷ [])
    (table-finds (Starts c) ((codes "AT", read_start c) ∷ []) (start-finds c & tt)) line p h

-- what follows the first line of a broadcast trace
pub spelled : (version : Version) (c : ℕ) (lines : List Bytes) (h : Head) (q : Picture) → IsCapacity c →
    leads (Headed version c) lines ≡ Some (Begun h q) → Spells h q (Spelled.line (head_fields version c) ∷ lines)
unfolding step
spelled version c [] h q capacity k = absurd (not-begun (Headed version c) h q k)
spelled version c (line ∷ lines) h q capacity k = at (by_table ((codes "AT", read_start c) ∷ []) line) refl k
  where
    at : (told : Option Drawn) → by_table ((codes "AT", read_start c) ∷ []) line ≡ told →
        goes_on (option_map On (option_map (InBroadcast version) told)) lines (λ next. leads next lines) ≡ Some (Begun h q) →
        Spells h q (Spelled.line (head_fields version c) ∷ line ∷ lines)
    at None e k = absurd (none-some (Begun h q) k)
    at (Some p) e k =
        let s = starts c line p e in
        let none : IsInOrder version c s.low s.tail s.next [] [] [] = record {
          values = tt;
          few = omega arith;
          live = record {
            first = s.next_first;
            fits = s.next_fits;
            by_sender = record { rising = tt; given = tt; few = omega arith };
            by_receiver = record { rising = tt; given = tt; few = omega arith };
            apart = tt;
          };
          within = tt;
          first = λ less. (refl, refl);
        } in
        let d = drew version c s.low s.tail s.next [] lines h q [] [] [] none refl
        (subst (λ (x : Drawn). leads (InBroadcast version x) lines ≡ Some (Begun h q)) s.is k) in
        let drawn : Drawn = draft version c s.low s.tail s.next d.kept d.senders d.places in
        let b = and_parts _ _ d.whole in
        let filled : length d.kept ≡ s.tail - s.low = eqb-true (length d.kept) (s.tail - s.low) b.0 in
        let sound : IsSound drawn = record {
          window = record {
            capacity = capacity;
            low = eqb-true s.low (low_of s.tail c d.places) b.1;
            kept = omega (arith, filled, s.low_fits);
            places = d.in_order.within;
          };
          tail = s.tail_fits;
          handles = d.in_order.live;
        } in
        let below : lines ≡ map kept_line d.kept
        ++ (map sender_line d.senders ++ (map receiver_line (map standing d.places) ++ codes "BEGIN" ∷ [])) =
        d.lines_are ∙ append_assoc (map kept_line d.kept) (map sender_line d.senders ++ map receiver_line (map standing d.places))
        (codes "BEGIN" ∷ [])
        ∙ ap (λ (l : List Bytes). map kept_line d.kept ++ l)
        (append_assoc (map sender_line d.senders) (map receiver_line (map standing d.places)) (codes "BEGIN" ∷ [])) in
        let all : (Spelled.line (head_fields version c) ∷ line ∷ lines) ≡ picture_lines (told version drawn) =
        ap (λ (l : Bytes). Spelled.line (head_fields version c) ∷ l ∷ lines) s.line_is
        ∙ ap (λ (l : List Bytes). Spelled.line (head_fields version c) ∷ start_of (start s.low s.tail) s.next ∷ l) below in
        subst (λ (x : Head). Spells x q (Spelled.line (head_fields version c) ∷ line ∷ lines)) (sym d.head_is)
        (subst (λ (x : Picture). Spells (head.Broadcast version) x (Spelled.line (head_fields version c) ∷ line ∷ lines)) (sym d.is)
        (sound, d.in_order.values, all))
