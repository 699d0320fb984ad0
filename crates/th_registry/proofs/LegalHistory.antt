-- A history is kept by its channel's opening, by each event for which there is room, and by a cut; and for the end of a
-- live handle there is room.
use Rattle.std.proofs.Common.{◌≡◌, ℕ, ◌+◌, ◌<◌, ◌≤◌, Bool, true, false, ◌||◌, nat_lt, [], ◌∷◌, length, length-append, refl, sym, arith}
use Rattle.std.proofs.lemmas.Bool.{false≢true, le-ltb, ltb-false}
use Rattle.th_log.specs.History.{Machine, most}
use Rattle.th_log.proofs.Grows.{grows}
use Rattle.th_registry.specs.History.{History, opened, recorded, is_full, segment, cut}
use Rattle.th_registry.specs.Legal.{IsKept}

-- neither of two
neither : (b c : Bool) → (b || c) ≡ false → (b ≡ false) × (c ≡ false)
neither true c h = absurd (false≢true (sym h))
neither false c h = (refl, h)

-- the laws of a channel's machine
pub record Laws {E S C R : Type 0} (m : Machine E S C R) (proper : E → Type 0) (sound : S → Type 0) : Type 0 where
  pub whole : (p : S) → sound p → proper (m.whole p) × (m.see (m.whole p) ≡ p)
  pub seen : (e : E) → proper e → sound (m.see e)
  pub stays : (e : E) (c : C) → proper e → proper (m.step e c).1
  pub answer : (e : E) (c : C) → proper e → m.answer (m.see e) c ≡ ((m.step e c).0, m.see (m.step e c).1)

module _ {E S C R : Type 0} {m : Machine E S C R} {proper : E → Type 0} {sound : S → Type 0} (laws : Laws m proper sound) (limit : ℕ) where
  -- the handles live after a call
  abbrev live_then : History E S C R → C → ℕ
  live_then h call = m.live (m.see (m.step h.state call).1)

  pub kept-opened : (key : ℕ) (e : E) → proper e → m.live (m.see e) ≡ 1 → 0 < limit → IsKept m sound limit (opened limit key e (m.see e))
  kept-opened key e p one first = record {
    legal = record { sound = laws.seen e p; run = tt; end = (laws.whole (m.see e) (laws.seen e p)).1 };
    same_limit = refl;
    within = omega (arith, one, first);
    total = omega (arith, one);
  }

  module _ (h : History E S C R) (p : proper h.state) (k : IsKept m sound limit h) where
    -- one entry more, where the handles that are live then can be spent beside it
    kept-added : (call : C) → m.ready (m.see h.state) call ≡ true →
        length h.entries + 1 + live_then h call ≤ limit → h.first + length h.entries + 1 + live_then h call ≤ most →
        IsKept m sound limit (recorded h call (m.step h.state call)).1
    kept-added call ready within total =
        let reply = (m.step h.state call).0 in
        let more = length-append h.entries ((call, reply) ∷ []) in
        record {
          legal = grows m proper sound laws.whole laws.stays laws.answer (segment h (m.see h.state)) call reply
              (m.see (m.step h.state call).1) k.legal ready (laws.answer h.state call p);
          same_limit = k.same_limit;
          within = omega (arith, more, within);
          total = omega (arith, more, total);
        }

    pub kept-recorded : (call : C) → m.ready (m.see h.state) call ≡ true → is_full h (live_then h call) ≡ false →
        IsKept m sound limit (recorded h call (m.step h.state call)).1
    kept-recorded call ready room =
        let apart =
        neither (nat_lt h.limit (length h.entries + 1 + live_then h call))
        (nat_lt most (h.first + length h.entries + 1 + live_then h call)) room in
        kept-added call ready (omega (arith, k.same_limit, ltb-false h.limit (length h.entries + 1 + live_then h call) apart.0))
        (ltb-false most (h.first + length h.entries + 1 + live_then h call) apart.1)

    -- the end of a handle
    pub kept-spent : (call : C) → m.ready (m.see h.state) call ≡ true → live_then h call + 1 ≡ m.live (m.see h.state) →
        IsKept m sound limit (recorded h call (m.step h.state call)).1
    kept-spent call ready fewer = kept-added call ready (omega (arith, fewer, k.within)) (omega (arith, fewer, k.total))

    pub kept-cut : IsKept m sound limit (cut h (m.see h.state))
    kept-cut = record {
      legal = record { sound = laws.seen h.state p; run = tt; end = (laws.whole (m.see h.state) (laws.seen h.state p)).1 };
      same_limit = k.same_limit;
      within = omega (arith, k.within);
      total = omega (arith, k.total);
    }

-- there is room for the end of a handle
pub room-to-spend : {E S C R : Type 0} (m : Machine E S C R) (sound : S → Type 0) (limit : ℕ) (h : History E S C R) →
    IsKept m sound limit h → (live : ℕ) →
    live + 1 ≡ m.live (m.see h.state) → is_full h live ≡ false
room-to-spend m sound limit h k live fewer =
    rw (le-ltb h.limit (length h.entries + 1 + live) (omega (arith, fewer, k.within, k.same_limit)))
    (le-ltb most (h.first + length h.entries + 1 + live) (omega (arith, fewer, k.total)))
