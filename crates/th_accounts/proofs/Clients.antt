-- What each client was told, where the audit said yes and nothing is untold.
use Rattle.std.proofs.Common.{◌≡◌, ℕ, ◌+◌, List, [], ◌∷◌, ◌++◌, length, map, Some, refl, sym, ap, subst, ◌∙◌}
use Rattle.th_model.specs.declared.broadcast.BCall.{BCall}
use Rattle.th_model.specs.declared.broadcast.BReply.{BReply}
use Rattle.th_model.specs.declared.broadcast.BReply.TheVariants.{NewRx}
use Rattle.th_model.specs.Places.{place_of}
use Rattle.th_model.specs.BroadcastMachine.{Endless, step, run}
use Rattle.th_model.specs.BroadcastPicture.{Picture, whole}
use Rattle.th_model.specs.Delivery.{all_told, first_place, Delivers, DeliversNew, LawOfDelivery, LawOfNewReceivers}
use Rattle.th_model.proofs.BroadcastProperness.{step_proper}
use Rattle.th_log.specs.History as log
use Rattle.th_log.specs.Machines.{broadcast}
use Rattle.th_log.specs.MachineLaws.{broadcast-whole}
use Rattle.th_accounts.specs.Received.{IsRun, end_of, told_in}
use Rattle.th_accounts.specs.Clients.{ClientsWereTold, ClientsWereToldFromTheirMaking}
use Rattle.th_accounts.proofs.Received.{delivered, ends, run_tells, spares, tells, told_of}
use Rattle.th_accounts.proofs.Silent.{end_after, end_proper, run_after, run_before, told_since, told_until}

module _ {T : Type 0} where
  abbrev calls_of : List (BCall T × BReply T) → List (BCall T)
  calls_of es = map (λ (x : BCall T × BReply T). x.0) es

  runs : (e : Endless T) (es : List (BCall T × BReply T)) → log.IsRun broadcast e es → IsRun e es
  runs e [] h = tt
  runs e (x ∷ es) h = (h.1, runs (step e x.0).1 es h.2)

  ends_so : (e : Endless T) (es : List (BCall T × BReply T)) → end_of e es ≡ log.end_of broadcast e es
  ends_so e [] = refl
  ends_so e (x ∷ es) = ends_so (step e x.0).1 es

  there : (p : Picture T) (rx first : ℕ) → place_of p.window.places rx ≡ Some first → place_of (whole p).index rx ≡ Some first
  unfolding whole
  there p rx first h = h

  pub clients : LawOfDelivery T → ClientsWereTold T
  clients law p ds legal g n rx first during behind d at is spared drop a =
      let start = whole p.start in
      let proper = (broadcast-whole p.start legal.sound).0 in
      let run_all : IsRun start (during ++ behind) = subst (IsRun start) is (runs start p.entries legal.run) in
      let place : place_of start.index rx.0 ≡ Some first = there p.start rx.0 first at in
      let got = delivered law start during rx.0 first (told_of rx.0 during) proper (run_before start during behind run_all) place spared
      refl in
      let until = told_until (end_of start during) rx _ during behind (end_proper start during proper) got.place
      (run_after start during behind run_all) drop in
      let said = tells p rx.0 ds d g n a ∙ ap (told_of rx.0) is ∙ until in
      subst (λ end. Delivers start rx.0 first (told_in rx.0 d) end) (ends_so start during)
      (subst (λ xs. Delivers start rx.0 first xs (end_of start during)) (sym said) got)

  pub made_clients : LawOfNewReceivers T → ClientsWereToldFromTheirMaking T
  made_clients law p ds legal g n rx before making during behind d is spared drop a =
      let start = whole p.start in
      let proper = (broadcast-whole p.start legal.sound).0 in
      let rest : List (BCall T × BReply T) = during ++ behind in
      let run_all : IsRun start (before ++ (making, NewRx rx) ∷ rest) = subst (IsRun start) is (runs start p.entries legal.run) in
      let e : Endless T = end_of start before in
      let e_proper = end_proper start before proper in
      let made : Endless T = (step e making).1 in
      let made_proper = step_proper e making e_proper in
      let since = run_after start before ((making, NewRx rx) ∷ rest) run_all in
      let run_then : IsRun made during = run_before made during behind since.1 in
      let got = law e making (calls_of during) rx e_proper (sym since.0) (spares rx.0 during spared) in
      let end : (run made (calls_of during)).1 ≡ end_of made during = ends made during in
      let now : ℕ = first_place e making + length (all_told rx.0 (calls_of during) (run made (calls_of during)).0) in
      let place = subst (λ (f : Endless T). place_of f.index rx.0 ≡ Some now) end got.delivers.place in
      let until = told_until (end_of made during) rx _ during behind (end_proper made during made_proper) place
      (run_after made during behind since.1) drop in
      let said = tells p rx.0 ds d g n a ∙ ap (told_of rx.0) is ∙ told_since start before making rest rx proper run_all ∙ until
      ∙ run_tells made rx.0 during run_then in
      let till : List (BCall T × BReply T) = before ++ (making, NewRx rx) ∷ during in
      let whole_end : end_of made during ≡ log.end_of broadcast start till =
      sym (end_after start before ((making, NewRx rx) ∷ during)) ∙ ends_so start till in
      subst (λ (f : Endless T). DeliversNew f making rx.0 (told_in rx.0 d) (log.end_of broadcast start till)) (ends_so start before)
      (subst (λ (f : Endless T). DeliversNew e making rx.0 (told_in rx.0 d) f) (end ∙ whole_end)
      (subst (λ xs. DeliversNew e making rx.0 xs (run made (calls_of during)).1) (sym said) got))
