use Rattle.std.proofs.Common.{◌≡◌, ℕ, List, ◌++◌, ap, length, map, ◌∙◌}
use Rattle.th_model.specs.declared.watch.WCall.{WCall}
use Rattle.th_model.specs.declared.watch.WReply.{WReply}
use Rattle.th_traces.specs.Watch as watch
use Rattle.th_traces.specs.WatchWords.{grammar}
use Rattle.th_model.specs.WatchPicture as watch_picture_of
use Rattle.th_traces.specs.Grammars.{fields}
use Rattle.th_traces.specs.Spelled.{Bytes, entry_lines, picture_lines, text}
use Rattle.th_c.specs.SpelledValues.{watch_entry, watch_picture}
use Rattle.th_c.proofs.Printed.{told-length, whole}
use Rattle.th_c.proofs.printing.watch_text.Goals as goal

pub returns : goal.returns
returns g c =
    let entry : WCall g.row.T.Denot × WReply g.row.T.Denot → WCall Bytes × WReply Bytes = watch_entry g.T.Payload.spelled in
    let picture_of : watch_picture_of.Picture g.row.T.Denot → watch_picture_of.Picture Bytes = watch_picture g.T.Payload.spelled in
    let start = c.args.segment.now.start in
    let entries : List (WCall g.row.T.Denot × WReply g.row.T.Denot) = c.args.segment.now.entries in
    let same : c.entries-entries.result.now ≡ entries = c.entries-entries.ensures in
    let told : List (WCall Bytes × WReply Bytes) = map entry entries in
    let es : List (List Bytes × List Bytes) = fields grammar told in
    let picture : c.in_ok-picture.picture ≡ picture_of start = c.in_ok-picture.ensures ∙ ap picture_of c.start.ensures in
    let lines : List Bytes = picture_lines (watch.told (picture_of start)) in
    let shown : c.new.result ≡ lines = c.new.ensures ∙ (ap (λ p. picture_lines (watch.told p)) picture) in
    let empty = c.new-out.ensures.items in
    let a : List ℕ = c.print_watch_lines.new.out.items in
    let first : a ≡ text lines = c.in_ok-print_watch_lines.ensures ∙ (λ j. empty j ++ text (shown j)) in
    let b : List ℕ = c.print_watch_entries.new.out.items in
    let second : b ≡ a ++ text (entry_lines es) =
    c.in_ok-print_watch_entries.ensures ∙ ap (λ xs. a ++ text (entry_lines (fields grammar (map entry xs)))) same in
    let count = ap (λ xs. length xs) same ∙ told-length grammar entry entries in
    whole lines es (length c.entries-entries.result.now) count a b c.print_end.new.out.items first second c.in-Ok.ensures.ok
