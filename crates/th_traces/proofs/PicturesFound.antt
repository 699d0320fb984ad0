-- What lines are read as is a picture, and the lines its spelling.
use Rattle.std.proofs.Common.{◌≡◌, ℕ, zero, suc, ◌*◌, ◌^◌, Bool, true, false, List, [], ◌∷◌, ◌++◌, refl, sym, ap, ◌∙◌, Option, Some, None, subst, cond}
use Rattle.std.specs.Prelude.{codes, nat_le, nat_lt, ◌==◌, ◌&&◌}
use Rattle.std.specs.Option.{option_map}
use Rattle.std.specs.Fmt.{decimal}
use Rattle.std.proofs.lemmas.Bool.{eqb-true, false≢true, leb-true, ltb-true}
use Rattle.std.proofs.lemmas.Option.{none-some}
use Rattle.std.proofs.Math.Nat.{pow-succ'}
use Rattle.th_model.specs.Limits.{IsCapacity, capacity_of, doubled}
use Rattle.th_lines.specs.Fields.{Rest, by_word, field_then, number_last}
use Rattle.th_lines.proofs.Grammar.{Finds, ended-finds, joined, number_last-found, table-finds}
use Rattle.th_lines.proofs.Numbers.{and_parts}
use Rattle.th_lines.proofs.Tables.{◌&◌}
use Rattle.th_traces.specs.declared.head.Head.{Head}
use Rattle.th_traces.specs.declared.head.Head.TheVariants as head
use Rattle.th_traces.specs.declared.head.Version.{Version}
use Rattle.th_traces.specs.declared.head.Version.TheVariants.{One, Two}
use Rattle.th_traces.specs.declared.picture.Picture.{Picture}
use Rattle.th_traces.specs.declared.picture.Picture.TheVariants as picture
use Rattle.th_traces.specs.declared.place.Place.{Place}
use Rattle.th_traces.specs.declared.place.Place.TheVariants.{Nothing, Headed, InBroadcast, WatchHeaded, InWatch}
use Rattle.th_traces.specs.Broadcast as broadcast
use Rattle.th_traces.specs.Pictures.{Begun, On, capacity_last, goes_on, head_line, is_capacity, kinds, leads, step, versions}
use Rattle.th_traces.specs.Shown.{Spells}
use Rattle.th_traces.specs.Spelled.{Bytes, line}
use Rattle.th_traces.specs.Tables.{Table}
use Rattle.th_traces.specs.Versions.{digit}
use Rattle.th_traces.specs.Watch as watch
use Rattle.th_traces.proofs.Begun.{allowed-found}
use Rattle.th_traces.proofs.BroadcastAgain.{broadcast-again}
use Rattle.th_traces.proofs.BroadcastFound as broadcast_found
use Rattle.th_traces.proofs.BroadcastFound.{not-begun}
use Rattle.th_traces.proofs.Entries.{by_table-found, table-entry}
use Rattle.th_traces.proofs.WatchAgain.{watch-again}
use Rattle.th_traces.proofs.WatchFound as watch_found

-- doubling from a power of two on comes to powers of two
doubled-power : (k j asked : ℕ) → (i : ℕ) × (doubled k (2 ^ j) asked ≡ 2 ^ i)
doubled-power zero j asked = (j, refl)
doubled-power (suc k) j asked = at (nat_le asked (2 ^ j)) (doubled-power k (suc j) asked)
  where
    at : (b : Bool) → (i : ℕ) × (doubled k (2 ^ suc j) asked ≡ 2 ^ i) → (i : ℕ) × (cond b (2 ^ j) (doubled k (2 * 2 ^ j) asked) ≡ 2 ^ i)
    at true more = (j, refl)
    at false more = (more.0, subst (λ (c : ℕ). doubled k c asked ≡ 2 ^ more.0) (pow-succ' 2 j) more.1)

capacity-found : (c : ℕ) → is_capacity c ≡ true → IsCapacity c
unfolding capacity_of
capacity-found c h = at (nat_lt 0 c && nat_le c 65536) refl h
  where
    own : (o : Option ℕ) → Option ℕ → Bool
    own o None = false
    own o (Some k) = k == c

    at : (b : Bool) → (nat_lt 0 c && nat_le c 65536) ≡ b → own None (cond b (Some (doubled 16 1 c)) None) ≡ true → IsCapacity c
    at true e k =
        let b = and_parts _ _ e in
        let power = doubled-power 16 0 c in
        let same : doubled 16 1 c ≡ c = eqb-true (doubled 16 1 c) c k in
        ((power.0, sym same ∙ power.1), ltb-true 0 c b.0, leb-true c 65536 b.1)
    at false e k = absurd (false≢true k)

-- what the first line tells, behind the version, behind `TRACE`, and whole
abbrev KindIs : Version → List ℕ → Place → Type 0
KindIs version bytes (Headed v c) = (v ≡ version) × IsCapacity c × (bytes ≡ codes "B" ++ 32 ∷ decimal c)
KindIs version bytes WatchHeaded = (version ≡ One) × (bytes ≡ codes "W")
KindIs version bytes place = ⊥

capacity-finds : (version : Version) → Finds (KindIs version) (codes "B", capacity_last version)
capacity-finds version rest place h =
    let f = allowed-found is_capacity (Headed version) (number_last (λ (c : ℕ). c) rest) place h in
    let n = number_last-found (λ (c : ℕ). c) rest f.0 f.1 in
    let bytes : joined (codes "B") rest ≡ codes "B" ++ 32 ∷ decimal f.0 =
    ap (λ (r : Rest). joined (codes "B") r) n.1 ∙ ap (λ (c : ℕ). codes "B" ++ 32 ∷ decimal c) n.3 in
    subst (λ (p : Place). KindIs version (joined (codes "B") rest) p) f.3 (refl, capacity-found f.0 f.2, bytes)

kind-found : (version : Version) (word : List ℕ) (rest : Rest) (place : Place) → by_word (kinds version) word rest ≡ Some place →
    KindIs version (joined word rest) place
unfolding kinds
kind-found One = table-finds (KindIs One) (kinds One) (
    capacity-finds One & ended-finds (KindIs One) (codes "W") WatchHeaded (refl, refl) & tt
    )
kind-found Two = table-finds (KindIs Two) (kinds Two) (capacity-finds Two & tt)

abbrev VersionIs : List ℕ → Place → Type 0
VersionIs bytes (Headed v c) = IsCapacity c × (bytes ≡ digit v ++ 32 ∷ (codes "B" ++ 32 ∷ decimal c))
VersionIs bytes WatchHeaded = bytes ≡ codes "1" ++ 32 ∷ codes "W"
VersionIs bytes place = ⊥

version-is : (version : Version) (bytes : List ℕ) (place : Place) → KindIs version bytes place →
    VersionIs (digit version ++ 32 ∷ bytes) place
version-is version bytes (Headed v c) k =
    (k.1, ap (λ (b : List ℕ). digit version ++ 32 ∷ b) k.2 ∙ ap (λ (w : Version). digit w ++ 32 ∷ (codes "B" ++ 32 ∷ decimal c)) (sym k.0))
version-is version bytes WatchHeaded k =
    ap (λ (b : List ℕ). digit version ++ 32 ∷ b) k.1 ∙ ap (λ (w : Version). digit w ++ 32 ∷ codes "W") k.0
version-is version bytes Nothing k = absurd k
version-is version bytes (InBroadcast v p) k = absurd k
version-is version bytes (InWatch p) k = absurd k

version-found : (word : List ℕ) (rest : Rest) (place : Place) → by_word versions word rest ≡ Some place → VersionIs (joined word rest) place
unfolding versions
version-found = table-finds VersionIs versions (
    table-entry VersionIs (codes "1") (kinds One)
    (λ field rest place h. version-is One (joined field rest) place (kind-found One field rest place h))
    & table-entry VersionIs (codes "2") (kinds Two)
    (λ field rest place h. version-is Two (joined field rest) place (kind-found Two field rest place h))
    & tt
    )

abbrev HeadIs : List ℕ → Place → Type 0
HeadIs bytes (Headed v c) = IsCapacity c × (bytes ≡ line (broadcast.head v c))
HeadIs bytes WatchHeaded = bytes ≡ line watch.head
HeadIs bytes place = ⊥

head-is : (bytes : List ℕ) (place : Place) → VersionIs bytes place → HeadIs (codes "TRACE" ++ 32 ∷ bytes) place
head-is bytes (Headed v c) k = (k.0, ap (λ (b : List ℕ). codes "TRACE" ++ 32 ∷ b) k.1)
head-is bytes WatchHeaded k = ap (λ (b : List ℕ). codes "TRACE" ++ 32 ∷ b) k
head-is bytes Nothing k = absurd k
head-is bytes (InBroadcast v p) k = absurd k
head-is bytes (InWatch p) k = absurd k

head-found : (bytes : List ℕ) (place : Place) → head_line bytes ≡ Some place → HeadIs bytes place
head-found bytes place h =
    by_table-found HeadIs first (table-finds HeadIs first (
    table-entry HeadIs (codes "TRACE") versions
    (λ field rest place h. head-is (joined field rest) place (version-found field rest place h))
    & tt
    )) bytes place h
  where
    first : Table Place
    first = (codes "TRACE", field_then (by_word versions)) ∷ []

pub pictures-found : (lines : List Bytes) (h : Head) (q : Picture) → leads Nothing lines ≡ Some (Begun h q) → Spells h q lines
unfolding step
pictures-found [] h q k = absurd (not-begun Nothing h q k)
pictures-found (first ∷ lines) h q k = at (head_line first) refl k
  where
    below : (place : Place) → HeadIs first place → leads place lines ≡ Some (Begun h q) → Spells h q (first ∷ lines)
    below (Headed v c) is k = subst (λ (b : Bytes). Spells h q (b ∷ lines)) (sym is.1) (broadcast_found.spelled v c lines h q is.0 k)
    below WatchHeaded is k = subst (λ (b : Bytes). Spells h q (b ∷ lines)) (sym is) (watch_found.spelled lines h q k)
    below Nothing is k = absurd is
    below (InBroadcast v p) is k = absurd is
    below (InWatch p) is k = absurd is

    at : (told : Option Place) → head_line first ≡ told → goes_on (option_map On told) lines (λ next. leads next lines) ≡ Some (Begun h q) →
        Spells h q (first ∷ lines)
    at None e k = absurd (none-some (Begun h q) k)
    at (Some place) e k = below place (head-found first place e) k

pub pictures-again : (lines : List Bytes) (h : Head) (q : Picture) → Spells h q lines → leads Nothing lines ≡ Some (Begun h q)
pictures-again lines (head.Broadcast version) (picture.Broadcast p) s =
    ap (leads Nothing) s.2 ∙ broadcast-again version p s.0 s.1
pictures-again lines (head.Broadcast version) (picture.Watch p) s = absurd s
pictures-again lines head.Watch (picture.Broadcast p) s = absurd s
pictures-again lines head.Watch (picture.Watch p) s = ap (leads Nothing) s.2 ∙ watch-again p s.0 s.1
