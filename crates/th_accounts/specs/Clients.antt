-- What each client was told, where the audit said yes and nothing is untold.
use Rattle.std.specs.Prelude.{◌≡◌, ℕ, List, [], ◌∷◌, ◌++◌, length, Some}
use Rattle.std.specs.List.{AllByRecursion}
use Rattle.th_model.specs.declared.handles.RxId.{RxId}
use Rattle.th_model.specs.declared.broadcast.BCall.{BCall}
use Rattle.th_model.specs.declared.broadcast.BCall.TheVariants.{DropRx}
use Rattle.th_model.specs.declared.broadcast.BReply.{BReply}
use Rattle.th_model.specs.declared.broadcast.BReply.TheVariants.{NewRx}
use Rattle.th_model.specs.Places.{place_of}
use Rattle.th_model.specs.BroadcastPicture.{Picture, IsSound, whole}
use Rattle.th_model.specs.Delivery.{Spares, Delivers, DeliversNew}
use Rattle.th_log.specs.Outcome.{Told}
use Rattle.th_log.specs.History.{Piece, IsLegal, end_of}
use Rattle.th_log.specs.Machines.{broadcast}
use Rattle.th_log.specs.Audit.{AreGood}
use Rattle.th_accounts.specs.Accounts.{all_of}
use Rattle.th_accounts.specs.Received.{TellsAlone, told_in}

-- the first of these calls drops the receiver, if there is one
abbrev pub BeginsWithItsDrop : {T : Type 0} → RxId → List (BCall T × BReply T) → Type 0
BeginsWithItsDrop rx [] = Unit {0}
BeginsWithItsDrop rx (x ∷ xs) = x.0 ≡ DropRx rx

module _ {T : Type 0} (p : Piece (Picture T) (BCall T) (BReply T))
    (diaries : List (List (Told (BCall T) (BReply T)))) where
  -- The receiver rx is live from the start on, until it is dropped or to the end, and `d` alone of the diaries tells of its
  -- receives. Then all that `d` tells of rx is the values sent from its first place on, in order, with a gap for each that it
  -- missed, and as many as its place rose.
  abbrev pub LiveReceiversWereTold : Type 0
  LiveReceiversWereTold = (rx : RxId) (first : ℕ) (during behind : List (BCall T × BReply T))
      (d : List (Told (BCall T) (BReply T)))
      → place_of p.start.window.places rx.0 ≡ Some first → p.entries ≡ during ++ behind
      → AllByRecursion (λ x. Spares rx.0 x.0) during → BeginsWithItsDrop rx behind
      → TellsAlone rx.0 diaries d
      → (let start = whole p.start in
      Delivers start rx.0 first (told_in rx.0 d) (end_of broadcast start during))

  -- A call within the part makes the receiver rx, which is live then until it is dropped or to the end. Then all that `d` tells
  -- of it is what the call found for it, and the values sent since, in order, with a gap for each that it missed, and as many
  -- as its place rose.
  abbrev pub NewReceiversWereTold : Type 0
  NewReceiversWereTold = (rx : RxId) (before : List (BCall T × BReply T)) (making : BCall T)
      (during behind : List (BCall T × BReply T)) (d : List (Told (BCall T) (BReply T)))
      → p.entries ≡ before ++ (making, NewRx rx) ∷ (during ++ behind)
      → AllByRecursion (λ x. Spares rx.0 x.0) during → BeginsWithItsDrop rx behind
      → TellsAlone rx.0 diaries d
      → (let start = whole p.start in
      let till = before ++ (making, NewRx rx) ∷ during in
      DeliversNew (end_of broadcast start before) making rx.0 (told_in rx.0 d)
      (end_of broadcast start till))

-- Of a legal part of a channel's history, where an audit said yes to diaries that together have as many receipts as the part
-- has entries: of the receivers that are live at its start, and of those that are made within it.
abbrev pub ClientsWereTold : Type 0 → Type 0
ClientsWereTold T = (p : Piece (Picture T) (BCall T) (BReply T))
    (diaries : List (List (Told (BCall T) (BReply T))))
    → IsLegal broadcast IsSound p → AreGood p diaries → length (all_of diaries) ≡ length p.entries
    → LiveReceiversWereTold p diaries

abbrev pub ClientsWereToldFromTheirMaking : Type 0 → Type 0
ClientsWereToldFromTheirMaking T = (p : Piece (Picture T) (BCall T) (BReply T))
    (diaries : List (List (Told (BCall T) (BReply T))))
    → IsLegal broadcast IsSound p → AreGood p diaries → length (all_of diaries) ≡ length p.entries
    → NewReceiversWereTold p diaries
