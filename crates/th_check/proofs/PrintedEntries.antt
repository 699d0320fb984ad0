-- What is printed of a history of either kind is read again, and legal.
use Rattle.std.proofs.Common.{◌≡◌, ℕ, ◌≤◌, Bool, List, [], ◌∷◌, ◌++◌, length, refl, ap, ◌∙◌, arith, Some}
use Rattle.std.specs.Bool.{Decides}
use Rattle.std.specs.List.{AllByRecursion}
use Rattle.std.proofs.lemmas.List.{length-map}
use Rattle.th_lines.specs.Lines.{lines_of}
use Rattle.th_log.specs.History.{Machine, IsRun}
use Rattle.th_traces.specs.declared.head.Head.{Head}
use Rattle.th_traces.specs.declared.picture.Picture.{Picture}
use Rattle.th_traces.specs.Grammars.{Grammar, fields, reply_of}
use Rattle.th_traces.specs.Shown.{Spells}
use Rattle.th_traces.specs.Spelled.{Bytes, PictureFields, call_line, end_line, entry_lines, picture_lines, reply_line, text, trace_lines}
use Rattle.th_check.specs.Histories.{HasHistory, IsHistory, entry_fields}
use Rattle.th_check.specs.Printed.{IsPrinted}
use Rattle.th_check.specs.Stages.{GivenBy, most_entries}
use Rattle.th_check.specs.Verdicts.{IsLegalText}
use Rattle.th_check.proofs.PrintedLines.{ArePlainFields, IsEntryPlain, IsLine, all_map, traced}
use Rattle.th_check.proofs.Tracing.{legal}

pub all_with : {A : Type 0} (P Q T : A → Type 0) → ((a : A) → P a → Q a → T a) → (xs : List A) → AllByRecursion P xs → AllByRecursion Q xs
    → AllByRecursion T xs
all_with P Q T ok [] h k = tt
all_with P Q T ok (x ∷ xs) h k = (ok x h.0 k.0, all_with P Q T ok xs h.1 k.1)

module _ {F E S C R : Type 0} (m : Machine E S C R) (g : Grammar F C R) (IsReply : C → R → Type 0) (Fits : R → Type 0)
    (answers : (state : E) (call : C) (reply : R) → reply ≡ (m.step state call).0 → Fits reply → IsReply call reply) where
  -- a line says the machine's own reply exactly where it is its spelling
  pub says : ((call : C) (text : List ℕ) (reply : R) → reply_of g call text ≡ Some reply
      → IsReply call reply × (text ≡ reply_line (g.reply_fields reply)))
      → ((call : C) (reply : R) → IsReply call reply → reply_of g call (reply_line (g.reply_fields reply)) ≡ Some reply)
      → (line : List ℕ) (reply : R) (b : Bool) → Decides b (line ≡ reply_line (g.reply_fields reply)) → Fits reply
      → (call : C) → GivenBy m call reply → Decides b (reply_of g call line ≡ Some reply)
  says found again line reply b d fits call own = (
    λ yes. ap (reply_of g call) (d.0 yes) ∙ again call reply (answers own.0 call reply own.1 fits),
    λ said. d.1 (found call line reply said).1,
  )

  module _ (IsCall : C → Type 0) where
    abbrev IsEntry : C × R → Type 0
    IsEntry e = IsCall e.0 × IsReply e.0 e.1

    each_entry : (state : E) (entries : List (C × R)) → IsRun m state entries → AllByRecursion (IsPrinted IsCall Fits) entries
        → AllByRecursion IsEntry entries
    each_entry state [] run printed = tt
    each_entry state (e ∷ es) run printed =
        ((printed.0.0, answers state e.0 e.1 run.1 printed.0.1), each_entry (m.step state e.0).1 es run.2 printed.1)

    -- the text of a legal history, where its lines are plain
    pub printed_legal : ((call : C) → IsCall call → IsLine (call_line (g.call_fields call)))
        → ((reply : R) → Fits reply → IsLine (reply_line (g.reply_fields reply)))
        → (h : Head) (p : Picture) (state : E) →
        ((lines : List Bytes) (count : ℕ) → IsHistory m IsEntry (entry_fields g) state lines count → HasHistory h p lines count)
        → (t : PictureFields) → ArePlainFields t → Spells h p (picture_lines t)
        → (entries : List (C × R)) → IsRun m state entries → AllByRecursion (IsPrinted IsCall Fits) entries → length entries ≤ most_entries
        → IsLegalText (lines_of (text (trace_lines t (fields g entries)))) (length entries)
    printed_legal call_plain reply_plain h p state is t plain read entries run printed few =
        let es = fields g entries in
        let same : length es ≡ length entries = length-map entries _ in
        let below = entry_lines es ++ end_line (length es) ∷ [] in
        let history : IsHistory m IsEntry (entry_fields g) state below (length entries) = record {
          entries = entries;
          run = run;
          each = each_entry state entries run printed;
          told = ap (λ (n : ℕ). entry_lines es ++ end_line n ∷ []) same;
          counted = refl;
          most = few;
        } in
        legal (lines_of (text (trace_lines t es))) (length entries)
        (traced t es h p (length entries) plain
        (all_map (IsPrinted IsCall Fits) IsEntryPlain (entry_fields g) (λ e f. (call_plain e.0 f.0, reply_plain e.1 f.1)) entries printed)
        (omega (arith, same, few)) read (is below (length entries) history))
