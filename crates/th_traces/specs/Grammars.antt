-- How the entries of either kind's traces are spelled, and read (docs/FORMATS.md, "Traces").
use Rattle.std.specs.Prelude.{ℕ, Bool, List, ◌∷◌, codes, map, Option, is_some}
use Rattle.th_lines.specs.Fields.{ended, number_last}
use Rattle.th_traces.specs.Spelled.{Bytes}
use Rattle.th_traces.specs.Tables.{Table, behind, by_table, handing}

-- How one kind's are, where F is what the first line of a trace says of its calls, C are the calls and
-- R the replies: the fields of a call and of a reply, as they are spelled; the call that a line says; the
-- value that a call gives; the replies that both kinds have; and this kind's own, by their words.
pub record Grammar (F C R : Type 0) : Type 0 where
  pub call_fields : C → List Bytes
  pub reply_fields : R → List Bytes
  pub call_of : F → List ℕ → Option C
  pub value_given : C → Option Bytes
  pub no_receivers : Bytes → R
  pub exhausted : Bytes → R
  pub no_handle : Option Bytes → R
  pub new_rx : ℕ → R
  pub new_tx : ℕ → R
  pub count : ℕ → R
  pub done : R
  pub closed : R
  pub too_many : R
  pub own : Table R

module _ {F C R : Type 0} (g : Grammar F C R) where
  abbrev pub gives_value : C → Bool
  gives_value call = is_some (g.value_given call)

  -- the replies that hand back no value
  abbrev pub plain_replies : Table R
  plain_replies =
      (codes "new-rx", number_last g.new_rx)
      ∷ (codes "new-tx", number_last g.new_tx)
      ∷ (codes "count", number_last g.count)
      ∷ (codes "done", ended g.done)
      ∷ (codes "closed", ended g.closed)
      ∷ (codes "too-many", ended g.too_many)
      ∷ g.own

  -- the replies to a call that gives this value, or none
  abbrev pub replies : Option Bytes → Table R
  replies given =
      (codes "no-receivers", handing given g.no_receivers)
      ∷ (codes "exhausted", handing given g.exhausted)
      ∷ (codes "no-handle", ended (g.no_handle given))
      ∷ plain_replies

  -- the reply to this call that a line says
  unfoldable pub reply_of : C → List ℕ → Option R
  reply_of call line = behind (codes "R") (by_table (replies (g.value_given call))) line

  -- the fields of entries
  abbrev pub fields : List (C × R) → List (List Bytes × List Bytes)
  fields entries = map (λ e. (g.call_fields e.0, g.reply_fields e.1)) entries
