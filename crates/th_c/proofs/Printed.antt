-- A history as a text, from front to back.
use Rattle.std.proofs.Common.{◌≡◌, ℕ, ◌+◌, ◌<◌, List, [], ◌∷◌, ◌++◌, true, false, append-nil, append_assoc, ap, get_or, length, map, refl, sym, take, ◌∙◌}
use Rattle.std.specs.List.{concat}
use Rattle.std.specs.Prelude.{Ok}
use Rattle.std.proofs.lemmas.List.{length-map, map-append, take_more}
use Rattle.std.proofs.lemmas.List.Folds.{concat-append}
use Rattle.th_lines.specs.Replies.{ended}
use Rattle.th_model.specs.declared.broadcast.BCall.{BCall}
use Rattle.th_traces.specs.Grammars.{Grammar, fields}
use Rattle.th_traces.specs.Spelled.{Bytes, call_line, end_line, entry_lines, reply_line, text}
use Rattle.th_traces.specs.ToCome.{PrintsNext}
use Rattle.th_traces.specs.Versions.{version_from, version_of, version_with}
use Rattle.th_traces.specs.declared.head.Version.{Version}
use Rattle.th_traces.specs.declared.head.Version.TheVariants.{One}

pub text-append : (xs ys : List Bytes) → text (xs ++ ys) ≡ text xs ++ text ys
text-append xs ys = ap concat (map-append ended xs ys) ∙ concat-append (map ended xs) (map ended ys)

entry_lines-append : (xs ys : List (List Bytes × List Bytes)) → entry_lines (xs ++ ys) ≡ entry_lines xs ++ entry_lines ys
entry_lines-append [] ys = refl
entry_lines-append (x ∷ xs) ys = ap (λ (rest : List Bytes). call_line x.0 ∷ reply_line x.1 ∷ rest) (entry_lines-append xs ys)

module _ {F C R A : Type 0} (g : Grammar F C R) (f : A → C × R) where
  -- the text of these entries, as they are told
  abbrev told : List A → List ℕ
  told xs = text (entry_lines (fields g (map f xs)))

  told-append : (xs ys : List A) → told (xs ++ ys) ≡ told xs ++ told ys
  told-append xs ys =
      let fs : List (List Bytes × List Bytes) = fields g (map f xs) in
      let gs : List (List Bytes × List Bytes) = fields g (map f ys) in
      ap (λ (es : List (C × R)). text (entry_lines (fields g es))) (map-append f xs ys)
      ∙ ap (λ (es : List (List Bytes × List Bytes)). text (entry_lines es))
      (map-append (λ (e : C × R). (g.call_fields e.0, g.reply_fields e.1)) (map f xs) (map f ys))
      ∙ ap text (entry_lines-append fs gs) ∙ text-append (entry_lines fs) (entry_lines gs)

  pub told-length : (xs : List A) → length xs ≡ length (fields g (map f xs))
  told-length xs =
      sym (length-map (map f xs) (λ (e : C × R). (g.call_fields e.0, g.reply_fields e.1)) ∙ length-map xs f)

  -- one entry more
  pub told-more : (xs : List A) (k : ℕ) (d : A) → k < length xs → (before out next : List ℕ) → out ≡ before ++ told (take k xs)
      → next ≡ out ++ told (get_or xs k d ∷ []) → next ≡ before ++ told (take (k + 1) xs)
  told-more xs k d h before out next so_far printed =
      let last : List A = get_or xs k d ∷ [] in
      printed ∙ ap (λ (o : List ℕ). o ++ told last) so_far ∙ append_assoc before (told (take k xs)) (told last)
      ∙ ap (λ (t : List ℕ). before ++ t) (sym (told-append (take k xs) last) ∙ ap told (sym (take_more xs k d h)))

version-append : {T : Type 0} (v : Version) (xs : List (BCall T)) (y : BCall T)
    → version_from v (xs ++ y ∷ []) ≡ version_with (version_from v xs) y
version-append v [] y = refl
version-append v (x ∷ xs) y = version-append (version_with v x) xs y

-- the version with one entry more
pub version-more : {A T R : Type 0} (f : A → BCall T × R) (xs : List A) (k : ℕ) (d : A) → k < length xs
    → version_of (map (λ e. e.0) (map f (take (k + 1) xs)))
    ≡ version_with (version_of (map (λ e. e.0) (map f (take k xs)))) (f (get_or xs k d)).0
version-more {A} {T} {R} f xs k d h =
    let call : BCall T × R → BCall T = λ e. e.0 in
    let last : List A = get_or xs k d ∷ [] in
    ap (λ (ys : List A). version_of (map call (map f ys))) (take_more xs k d h)
    ∙ ap (λ (es : List (BCall T × R)). version_of (map call es)) (map-append f (take k xs) last)
    ∙ ap version_of (map-append call (map f (take k xs)) (map f last))
    ∙ version-append One (map call (map f (take k xs))) (f (get_or xs k d)).0

-- a line more of a picture, and the end of it
pub lines-more : (come after : List Bytes) (all out next : List ℕ) → out ++ text come ≡ all
    → PrintsNext {E = Unit {0}} come after out next (Ok true) → next ++ text after ≡ all
lines-more come after all out next so_far printed =
    ap (λ (o : List ℕ). o ++ text after) printed.2
    ∙ append_assoc out (ended printed.0) (text after)
    ∙ ap (λ (ls : List Bytes). out ++ text ls) (sym printed.1) ∙ so_far

-- the picture, the entries and the end are a trace
pub whole : (lines : List Bytes) (es : List (List Bytes × List Bytes)) (n : ℕ) → n ≡ length es → (a b c : List ℕ) → a ≡ text lines
    → b ≡ a ++ text (entry_lines es) → c ≡ b ++ ended (end_line n) → c ≡ text (lines ++ (entry_lines es ++ end_line (length es) ∷ []))
whole lines es n count a b c first second third =
    let end : List Bytes = end_line (length es) ∷ [] in
    third ∙ ap (λ (m : ℕ). b ++ ended (end_line m)) count
    ∙ ap (λ (t : List ℕ). b ++ t) (sym (append-nil (ended (end_line (length es)))))
    ∙ ap (λ (t : List ℕ). t ++ text end) (second ∙ ap (λ (t : List ℕ). t ++ text (entry_lines es)) first)
    ∙ append_assoc (text lines) (text (entry_lines es)) (text end)
    ∙ ap (λ (t : List ℕ). text lines ++ t) (sym (text-append (entry_lines es) end))
    ∙ sym (text-append lines (entry_lines es ++ end))

pub lines-over : (come after : List Bytes) (all out next : List ℕ) → out ++ text come ≡ all
    → PrintsNext {E = Unit {0}} come after out next (Ok false) → next ≡ all
lines-over come after all out next so_far printed =
    printed.2 ∙ sym (append-nil out) ∙ ap (λ (ls : List Bytes). out ++ text ls) (sym printed.0) ∙ so_far
