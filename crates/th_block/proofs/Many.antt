-- Calls that are made together, and one more behind them.
use Rattle.std.proofs.Common.{◌≡◌, ◌∙◌, ℕ, ◌+◌, ◌-◌, ◌≤◌, ◌<◌, Bool, false, Result, Ok, Err, List, [], ◌∷◌, ◌++◌, length, ap, refl, sym, subst, arith, length-append, append_assoc, append-nil}
use Prim.Native.Nat.{zero, suc}
use Rattle.std.specs.Prelude.{Some, slice_get}
use Rattle.std.proofs.lemmas.Option.{none-some, same_Some}
use Rattle.th_seats.specs.Tally.{Part, Tally}
use Rattle.th_glance.specs.Lists.{last_count}
use Rattle.th_glance.specs.Seats.{Known as Sighted}
use Rattle.th_log.specs.Outcome.{Told, counted}
use Rattle.th_log.specs.declared.receipt.Refused.{Refused}
use Rattle.th_block.specs.Handles.{Known, Looked, Tells, seen_of}
use Rattle.th_block.specs.Rows.{AddsOne}
use Rattle.th_block.specs.Together.{AreOf, CallsOf, EndsLast, EnteredMany, EnteredOf, LeavesOver, Takes, has_ended}
use Rattle.th_block.proofs.Rows.{called, holder, one_on}

-- what is over is spoken of otherwise
pub leaves : {X V C : Type 0} (call : V → C) (result : Result X (Refused C)) (left : List V) (P Q : List V → Type 0)
    → LeavesOver call result left P → ((over : List V) → P over → Q over) → LeavesOver call result left Q
leaves call (Ok x) left P Q p f = f left p
leaves call (Err e) left P Q p f = (p.0, p.1, f (p.0 ∷ left) p.2)

module _ {V C R : Type 0} where
  of_on : (old : Known) (call : V → C) (place : ℕ) (vs : List V) (rs : List (Told C R)) (v : V) (r : Told C R)
      → AreOf old call place vs rs → Tells old (call v) r → r.place ≡ place + length rs
      → AreOf old call place (vs ++ v ∷ []) (rs ++ r ∷ [])
  of_on old call place [] [] v r row tells there = (tells, there ∙ omega arith, tt)
  of_on old call place [] (x ∷ xs) v r row tells there = absurd row
  of_on old call place (k ∷ ks) [] v r row tells there = absurd row
  of_on old call place (k ∷ ks) (x ∷ xs) v r row tells there =
      (row.0, row.1, of_on old call (place + 1) ks xs v r row.2 tells (there ∙ omega arith))

  pub none_of : (call : V → C) (old : Known) (first : ℕ) (queue : List V) (rs : List (Told C R))
      → EnteredOf call old old first first queue queue rs rs
  none_of call old first queue rs = record {
    made = [];
    added = [];
    queue_is = refl;
    behind = sym (append-nil rs);
    row = tt;
    total_is = omega arith;
    share = ap (λ (k : ℕ). record { key = old.share.key; count = k }) (omega arith);
    eye = refl;
  }

  pub one_of : (call : V → C) (old mid new : Known) (first : ℕ) (book book' : Tally) (queue over : List V) (v : V) (rest : List V)
      → (rs rs' rs'' : List (Told C R)) → EnteredOf call old mid first book.total queue over rs rs' → over ≡ v ∷ rest
      → AddsOne mid new (call v) book book' rs' rs'' → EnteredOf call old new first book'.total queue rest rs rs''
  one_of call old mid new first book book' queue over v rest rs rs' rs'' so_far front adds =
      let r = adds.receipt in
      let tells = adds.entered.tells in
      let more : length (so_far.added ++ r ∷ []) ≡ length so_far.added + 1 = length-append so_far.added (r ∷ []) in
      let total : book'.total ≡ book.total + 1 = ap (λ (t : Tally). t.total) adds.ticks in
      let seen : seen_of mid ≡ seen_of old = ap (λ (e : Sighted). last_count e.list) so_far.eye in
      let told : Tells old (call v) r = record {
        call_is = tells.call_is;
        key_is = tells.key_is ∙ ap (λ (s : Part). s.key) so_far.share;
        later = omega (arith, tells.later, seen);
      } in
      record {
        made = so_far.made ++ v ∷ [];
        added = so_far.added ++ r ∷ [];
        queue_is = so_far.queue_is ∙ ap (λ l. so_far.made ++ l) front ∙ sym (append_assoc so_far.made (v ∷ []) rest);
        behind = adds.behind ∙ ap (λ l. l ++ r ∷ []) so_far.behind ∙ append_assoc rs so_far.added (r ∷ []);
        row = of_on old call first so_far.made so_far.added v r so_far.row told (adds.place ∙ so_far.total_is);
        total_is = omega (arith, total, so_far.total_is, more);
        share = adds.entered.share ∙ ap counted so_far.share
            ∙ ap (λ (k : ℕ). record { key = old.share.key; count = k }) (omega (arith, more));
        eye = adds.entered.eye ∙ so_far.eye;
      }

  -- one was refused, so that nothing has changed but the queue
  pub back_of : (call : V → C) (old mid new : Known) (first : ℕ) (book book' : Tally) (queue over over' : List V)
      → (rs rs' rs'' : List (Told C R))
      → EnteredOf call old mid first book.total queue over rs rs' → over ≡ over' → (new ≡ mid) × (book' ≡ book) × (rs'' ≡ rs')
      → EnteredOf call old new first book'.total queue over' rs rs''
  back_of call old mid new first book book' queue over over' rs rs' rs'' so_far front same =
      subst (λ (k : Known). EnteredOf call old k first book'.total queue over' rs rs'') (sym same.0)
      (subst (λ (t : Tally). EnteredOf call old mid first t.total queue over' rs rs'') (sym same.1)
      (subst (λ (l : List (Told C R)). EnteredOf call old mid first book.total queue over' rs l) (sym same.2)
      (subst (λ (l : List V). EnteredOf call old mid first book.total queue l rs rs') front so_far)))

  pub calls_of : (call : V → C) (number : ℕ) (rolls : Bool) (old mid new : Known) (first total seen : ℕ) (queue over : List V) (rs rs' : List (Told C R))
      → seen ≡ total → new.share ≡ mid.share → Looked mid.eye new.eye → seen ≤ seen_of new
      → EnteredOf call old mid first total queue over rs rs'
      → CallsOf call (holder number rolls old) (holder number rolls new) queue over rs rs'
  calls_of call number rolls old mid new first total seen queue over rs rs' is share eye far entered = record {
    number = refl;
    rolls = refl;
    made = entered.made;
    added = entered.added;
    first = first;
    queue_is = entered.queue_is;
    behind = entered.behind;
    row = entered.row;
    seen = omega (arith, far, is, entered.total_is);
    eye = subst (λ (e : Sighted). Looked e new.eye) entered.eye eye;
    share = share ∙ entered.share;
  }

module _ {C R : Type 0} where
  last_on : (ends : R → Bool) (rs : List (Told C R)) (r : Told C R) → EndsLast ends rs → has_ended ends rs ≡ false
      → EndsLast ends (rs ++ r ∷ [])
  last_on ends [] r last on = tt
  last_on ends (x ∷ []) r last on = (on, tt)
  last_on ends (x ∷ y ∷ ys) r last on = (last.0, last_on ends (y ∷ ys) r last.1 on)

  ended_behind : (ends : R → Bool) (rs added : List (Told C R)) → 0 < length added → has_ended ends (rs ++ added) ≡ has_ended ends added
  ended_behind ends rs [] some = absurd (omega (arith, some))
  ended_behind ends [] (r ∷ added) some = refl
  ended_behind ends (x ∷ []) (r ∷ added) some = refl
  ended_behind ends (x ∷ y ∷ ys) (r ∷ added) some = ended_behind ends (y ∷ ys) (r ∷ added) some

  ended_at : (ends : R → Bool) (rs : List (Told C R)) (k : ℕ) (r : Told C R) → suc k ≡ length rs → slice_get rs k ≡ Some r
      → has_ended ends rs ≡ ends r.reply
  ended_at ends [] k r long there = absurd (none-some r there)
  ended_at ends (x ∷ []) zero r long there = ap (λ (t : Told C R). ends t.reply) (same_Some x r there)
  ended_at ends (x ∷ []) (suc k) r long there = absurd (omega (arith, long))
  ended_at ends (x ∷ y ∷ ys) zero r long there = absurd (omega (arith, long))
  ended_at ends (x ∷ y ∷ ys) (suc k) r long there = ended_at ends (y ∷ ys) k r (omega (arith, long)) there

  pub ended_last : (ends : R → Bool) (rs : List (Told C R)) (r : Told C R) → slice_get rs (length rs - 1) ≡ Some r
      → has_ended ends rs ≡ ends r.reply
  ended_last ends [] r there = absurd (none-some r there)
  ended_last ends (x ∷ xs) r there = ended_at ends (x ∷ xs) (length (x ∷ xs) - 1) r (omega arith) there

  pub more_taken : (ends : R → Bool) (old mid new : Known) (call : C) (limit first : ℕ) (book book' : Tally)
      → (rs rs' rs'' : List (Told C R)) (count : ℕ) → EnteredMany ends old mid call limit first book.total rs rs' count → count < limit →
      has_ended ends rs' ≡ false
      → AddsOne mid new call book book' rs' rs'' → EnteredMany ends old new call limit first book'.total rs rs'' (count + 1)
  more_taken ends old mid new call limit first book book' rs rs' rs'' count so_far less on adds =
      let r = adds.receipt in
      let more : AddsOne mid new call book book' so_far.added (so_far.added ++ r ∷ []) = record {
        receipt = r;
        entered = adds.entered;
        place = adds.place;
        ticks = adds.ticks;
        behind = refl;
      } in
      let goes : has_ended ends so_far.added ≡ false =
      sym (ended_behind ends rs so_far.added (omega (arith, so_far.some, so_far.count_is))) ∙ ap (has_ended ends) (sym so_far.behind)
      ∙ on in
      record {
        added = so_far.added ++ r ∷ [];
        behind = adds.behind ∙ ap (λ l. l ++ r ∷ []) so_far.behind ∙ append_assoc rs so_far.added (r ∷ []);
        count_is = omega (arith, so_far.count_is, length-append so_far.added (r ∷ []));
        some = omega arith;
        most = omega (arith, less);
        row = one_on old mid new call first book book' so_far.added (so_far.added ++ r ∷ []) so_far.row more;
        last = last_on ends so_far.added r so_far.last goes;
      }

  pub takes : (ends : R → Bool) (number : ℕ) (rolls : Bool) (old mid new : Known) (call : C) (limit first total seen : ℕ) (rs rs' : List (Told C R))
      → (count : ℕ) → EnteredMany ends old mid call limit first total rs rs' count → seen ≡ total
      → new.share ≡ mid.share → Looked mid.eye new.eye → seen ≤ seen_of new
      → Takes ends (holder number rolls old) (holder number rolls new) call limit rs rs' count
  takes ends number rolls old mid new call limit first total seen rs rs' count entered is share eye far = record {
    added = entered.added;
    behind = entered.behind;
    count_is = entered.count_is;
    some = entered.some;
    most = entered.most;
    row = called number rolls old mid new call first total seen entered.added entered.row is share eye far;
    last = entered.last;
  }
