-- The pieces of a trace: joined they are its text, and its lines are counted.
use Rattle.std.proofs.Common.{◌≡◌, ℕ, ◌+◌, ◌*◌, ◌<◌, List, [], ◌∷◌, ◌++◌, length, map, take, get_or, refl, sym, ap, ◌∙◌, arith, length-append}
use Rattle.std.specs.List.{concat}
use Rattle.std.proofs.lemmas.List.{map-append, take_more}
use Rattle.std.proofs.lemmas.List.Folds.{concat-append}
use Rattle.th_lines.specs.Replies.{ended}
use Rattle.th_model.specs.declared.broadcast.BCall.{BCall}
use Rattle.th_traces.specs.Pieces.{entry_piece, trace_pieces}
use Rattle.th_traces.specs.Spelled.{Bytes, PictureFields, end_line, entry_lines, picture_lines, text, trace_lines}
use Rattle.th_traces.specs.Versions.{version_from, version_of, version_with}
use Rattle.th_traces.specs.declared.head.Version.{Version}
use Rattle.th_traces.specs.declared.head.Version.TheVariants.{One}

text-append : (xs ys : List Bytes) → text (xs ++ ys) ≡ text xs ++ text ys
text-append xs ys = ap concat (map-append ended xs ys) ∙ concat-append (map ended xs) (map ended ys)

entries-text : (es : List (List Bytes × List Bytes)) → concat (map entry_piece es) ≡ text (entry_lines es)
entries-text [] = refl
entries-text (e ∷ es) = ap (λ (rest : List ℕ). entry_piece e ++ rest) (entries-text es)
    ∙ sym (text-append (entry_lines (e ∷ [])) (entry_lines es))

pub trace-text : (t : PictureFields) (es : List (List Bytes × List Bytes)) → concat (trace_pieces t es) ≡ text (trace_lines t es)
trace-text t es =
    let end = end_line (length es) ∷ [] in
    concat-append (map ended (picture_lines t)) (map entry_piece es ++ map ended end)
    ∙ ap (λ (rest : List ℕ). text (picture_lines t) ++ rest) (
    concat-append (map entry_piece es) (map ended end)
    ∙ ap (λ (entries : List ℕ). entries ++ text end) (entries-text es)
    ∙ sym (text-append (entry_lines es) end))
    ∙ sym (text-append (picture_lines t) (entry_lines es ++ end))

length-entry_lines : (es : List (List Bytes × List Bytes)) → length (entry_lines es) ≡ 2 * length es
length-entry_lines [] = refl
length-entry_lines (e ∷ es) = omega (arith, length-entry_lines es)

pub length-trace_lines : (t : PictureFields) (es : List (List Bytes × List Bytes)) (count : ℕ) → length es ≡ count
    → length (trace_lines t es) ≡ length (picture_lines t) + 2 * count + 1
length-trace_lines t es count e =
    let end = end_line (length es) ∷ [] in
    omega (arith, e, length-append (picture_lines t) (entry_lines es ++ end), length-append (entry_lines es) end, length-entry_lines es)

-- one call more
version-next : {T : Type 0} (version : Version) (calls : List (BCall T)) (call : BCall T)
    → version_from version (calls ++ call ∷ []) ≡ version_with (version_from version calls) call
version-next version [] call = refl
version-next version (c ∷ calls) call = version-next (version_with version c) calls call

-- the calls of the entries before one, and with that one
pub version-taken : {T R : Type 0} (entries : List (BCall T × R)) (k : ℕ) (default : BCall T × R) → k < length entries
    → version_of (map (λ e. e.0) (take (k + 1) entries)) ≡ version_with (version_of (map (λ e. e.0) (take k entries)))
    (get_or entries k default).0
version-taken {T} {R} entries k default h =
    let call : BCall T × R → BCall T = λ e. e.0 in
    let last = get_or entries k default in
    ap (λ (es : List (BCall T × R)). version_of (map call es)) (take_more entries k default h)
    ∙ ap (version_from One) (map-append call (take k entries) (last ∷ []))
    ∙ version-next One (map call (take k entries)) last.0
