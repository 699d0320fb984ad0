-- Receipts that stand in a row, and one more behind them.
use Rattle.std.proofs.Common.{◌≡◌, ◌∙◌, ℕ, Bool, ◌+◌, ◌≤◌, List, [], ◌∷◌, ◌++◌, length, ap, refl, sym, subst, arith, length-append}
use Rattle.th_seats.specs.Tally.{Part, Tally}
use Rattle.th_glance.specs.Lists.{last_count}
use Rattle.th_glance.specs.Seats.{Known as Sighted}
use Rattle.th_log.specs.Outcome.{Told, counted}
use Rattle.th_block.specs.Handles.{Holder, Known, Looked, Tells, seen_of}
use Rattle.th_block.specs.Rows.{AddsOne, CallsInRow, EnteredInRow, IsRow}

abbrev pub holder : ℕ → Bool → Known → Holder
holder number rolls known = record { number = number; known = known; rolls = rolls }

module _ {C R : Type 0} where
  row_on : (old : Known) (call : C) (place : ℕ) (rs : List (Told C R)) (r : Told C R) → IsRow old call place rs
      → Tells old call r → r.place ≡ place + length rs → IsRow old call place (rs ++ r ∷ [])
  row_on old call place [] r row tells there = (tells, there ∙ omega arith, tt)
  row_on old call place (x ∷ xs) r row tells there = (row.0, row.1, row_on old call (place + 1) xs r row.2 tells (there ∙ omega arith))

  pub none_yet : (old : Known) (call : C) (first : ℕ) (rs : List (Told C R)) → rs ≡ [] → EnteredInRow old old call first first rs
  none_yet old call first rs none = subst (λ (l : List (Told C R)). EnteredInRow old old call first first l) (sym none) (record {
    row = tt;
    total_is = omega arith;
    share = ap (λ (k : ℕ). record { key = old.share.key; count = k }) (omega arith);
    eye = refl;
  })

  pub one_on : (old mid new : Known) (call : C) (first : ℕ) (book book' : Tally) (rs rs' : List (Told C R))
      → EnteredInRow old mid call first book.total rs → AddsOne mid new call book book' rs rs'
      → EnteredInRow old new call first book'.total rs'
  one_on old mid new call first book book' rs rs' so_far adds =
      let r = adds.receipt in
      let tells = adds.entered.tells in
      let more : length (rs ++ r ∷ []) ≡ length rs + 1 = length-append rs (r ∷ []) in
      let total : book'.total ≡ book.total + 1 = ap (λ (t : Tally). t.total) adds.ticks in
      let seen : seen_of mid ≡ seen_of old = ap (λ (e : Sighted). last_count e.list) so_far.eye in
      let told : Tells old call r = record {
        call_is = tells.call_is;
        key_is = tells.key_is ∙ ap (λ (s : Part). s.key) so_far.share;
        later = omega (arith, tells.later, seen);
      } in
      subst (λ (l : List (Told C R)). EnteredInRow old new call first book'.total l) (sym adds.behind) (record {
        row = row_on old call first rs r so_far.row told (adds.place ∙ so_far.total_is);
        total_is = omega (arith, total, so_far.total_is, more);
        share =
            adds.entered.share ∙ ap counted so_far.share ∙ ap (λ (k : ℕ). record { key = old.share.key; count = k }) (omega (arith, more));
        eye = adds.entered.eye ∙ so_far.eye;
      })

  pub same_on : (old mid new : Known) (call : C) (first : ℕ) (book book' : Tally) (rs rs' : List (Told C R))
      → EnteredInRow old mid call first book.total rs → (new ≡ mid) × (book' ≡ book) × (rs' ≡ rs)
      → EnteredInRow old new call first book'.total rs'
  same_on old mid new call first book book' rs rs' so_far same =
      subst (λ (k : Known). EnteredInRow old k call first book'.total rs') (sym same.0)
      (subst (λ (t : Tally). EnteredInRow old mid call first t.total rs') (sym same.1)
      (subst (λ (l : List (Told C R)). EnteredInRow old mid call first book.total l) (sym same.2) so_far))

  pub one_longer : (rs rs' : List (Told C R)) (r : Told C R) → rs' ≡ rs ++ r ∷ [] → length rs' ≡ length rs + 1
  one_longer rs rs' r e = ap length e ∙ length-append rs (r ∷ [])

  pub called : (number : ℕ) (rolls : Bool) (old mid new : Known) (call : C) (first total seen : ℕ) (rs : List (Told C R))
      → EnteredInRow old mid call first total rs → seen ≡ total
      → new.share ≡ mid.share → Looked mid.eye new.eye → seen ≤ seen_of new
      → CallsInRow (holder number rolls old) (holder number rolls new) call rs
  called number rolls old mid new call first total seen rs entered is share eye far = record {
    number = refl;
    rolls = refl;
    first = first;
    row = entered.row;
    seen = omega (arith, far, is, entered.total_is);
    eye = subst (λ (e : Sighted). Looked e new.eye) entered.eye eye;
    share = share ∙ entered.share;
  }
