-- The rules of a #FORMAT, #EOS or #BOS line with the right columns: 7 holds, and the smallest number of those that don't is 8
-- exactly if a column isn't a number of its kind.
use Prim.Native.Nat.{ℕ, zero, suc, ◌+◌, ◌≤◌}
use native.Mathlib.Omega.{arith}
use mathlib.Core.Path.{◌≡◌, refl, sym, ap, ◌∙◌, subst}
use mathlib.Core.Logic.{◌⊎◌, inl, inr, ◌↔◌}
use mathlib.Core.Bool.{Bool, true, false, ◌&&◌}
use Rattle.std.specs.Prelude.{Option, None, Some}
use mathlib.Core.List.{List, [], ◌∷◌}
use lib.ListN.{length, drop}
use lib.Dec.{leb, ltb}
use borrow.Author.Tests.{eq-eqb, lt-ltb}
use Rattle.rules.specs.Lists.{bytes, empty, every, Each}
use Rattle.rules.specs.Bytes.{percents}
use Rattle.rules.specs.Texts.{Text}
use Rattle.rules.specs.Columns.{Column, columns_from, columns, written, fields}
use Rattle.rules.specs.Numbers.{Kind, format_number, sentence_number, date, origin_id, number, signed_id, good, value}
use Rattle.rules.specs.Rules.{Rule, rule, broken, unless, checked}
use Rattle.rules.specs.Tables.{Tables, origins, editors, present}
use Rattle.rules.specs.Sentences.{Heading, Sentence, heading_of, end_rules, end_of, so_far}
use Rattle.rules.specs.Keywords.{format_of}
use Rattle.rules.specs.Phases.{Answer, next}
use Rattle.rules.specs.Tidy.{id_digits}
use Rattle.rules.specs.GrammarLines.{White}
use Rattle.rules.specs.GrammarColumns.{Begins, no_column, one_column, Columns}
use Rattle.rules.specs.Refusals.{NumberWritten, IdWritten}
use Rattle.rules.proofs.Conjunctions.{and_both, false_if_never}
use Rattle.rules.proofs.RuleLaws.{number_of, smallest, passes, decides, reaches}
use Rattle.rules.proofs.Decimal.{number_read_back, id_read_back, id_one_writing}
use Rattle.rules.proofs.NumbersAgain.{number_again, number_range, id_range}
use Rattle.rules.proofs.TestsAsFacts.{good_some, some_good}
use Rattle.rules.proofs.SaidOfLists.{true_or_not, never_both}
use Rattle.rules.proofs.ColumnsAreRuns.{one_run, white_none}
use Rattle.rules.proofs.ColumnsSaid.{begins_at}
use Rattle.rules.proofs.KeywordsAsSaid.{columns_two, name_second}
use Rattle.rules.proofs.CleanFronts.{refusal_of}

-- ---- numbers of a kind

module _ (k : Kind) (xs : List ℕ) where
  number_said : (good (number k xs) ≡ true) ↔ NumberWritten k.lowest k.highest xs
  number_said = (
    λ g.
        let n = value (number k xs) in
        let e = good_some (number k xs) g in
        let r = number_range k xs n e in
        (n, r.0, r.1, sym (number_again k xs n e)),
    λ w. some_good (number k xs) w.0 (ap (number k) w.3 ∙ number_read_back k w.0 w.1 w.2),
  )

id_said : (xs : List ℕ) → (good (signed_id xs) ≡ true) ↔ IdWritten xs
id_said xs = (λ g. let e = good_some (signed_id xs) g in said (value (signed_id xs)) (id_range xs (value (signed_id xs)) e) (id_one_writing xs (value (signed_id xs)) e), read_so)
  where
    said : (i : ℕ) → i ≤ 65536 → id_digits i ≡ xs → IdWritten xs
    said zero h e = inl (sym e)
    said (suc i) h e = inr (i, omega arith, omega arith, sym e)

    read_so : IdWritten xs → good (signed_id xs) ≡ true
    read_so (inl e) = some_good (signed_id xs) 0 (ap signed_id e ∙ id_read_back 0 (omega arith))
    read_so (inr w) = some_good (signed_id xs) (suc w.0) (ap signed_id w.3 ∙ id_read_back (suc w.0) (omega (arith, w.2)))

-- a test that fails, and what it says
pub fails : {P : Type 0} (t : Bool) → (t ≡ true) ↔ P → (t ≡ false) ↔ (P → ⊥)
fails t k = (λ e p. never_both t (k.1 p) e, λ n. false_if_never t (λ e. n (k.0 e)))

-- ---- rules of number 8

pub eights_none : (rs : List Rule) → every (λ (q : Rule). leb 9 q.number) rs ≡ true → (smallest rs ≡ 8) ↔ ⊥
eights_none rs h = (λ e. by (broken rs) refl e, λ z. absurd z)
  where
    by : (o : Option Rule) → broken rs ≡ o → number_of o ≡ 8 → ⊥
    by None q e = omega (arith, e)
    by (Some r) q e = omega (arith, e, reaches 9 rs h r q)

eight_first : {P Q : Type 0} (t : Text) (b : Bool) (rs : List Rule) → every (λ (q : Rule). leb 8 q.number) rs ≡ true → (b ≡ false) ↔ P → (smallest rs ≡ 8) ↔ Q
    → (smallest (rule 8 t b ∷ rs) ≡ 8) ↔ (P ⊎ Q)
eight_first {P} {Q} t b rs h p q = by (true_or_not b)
  where
    by : (b ≡ true) ⊎ (b ≡ false) → (smallest (rule 8 t b ∷ rs) ≡ 8) ↔ (P ⊎ Q)
    by (inl e) = (λ z. inr (q.0 (sym (ap number_of (passes (rule 8 t b) rs e)) ∙ z)), other)
      where
        other : P ⊎ Q → smallest (rule 8 t b ∷ rs) ≡ 8
        other (inl x) = absurd (never_both b e (p.1 x))
        other (inr y) = ap number_of (passes (rule 8 t b) rs e) ∙ q.1 y
    by (inr e) = (λ z. inl (p.0 e), λ z. decides (rule 8 t b) rs e h)

pub held_first : {Q : Type 0} (r : Rule) (rs : List Rule) → r.holds ≡ true → (smallest rs ≡ 8) ↔ Q → (smallest (r ∷ rs) ≡ 8) ↔ Q
held_first r rs e q =
    let p = ap number_of (passes r rs e) in
    (λ z. q.0 (sym p ∙ z), λ y. p ∙ q.1 y)

-- the number of what is made of a line by its rules
pub checked_number : {A : Type 0} (f : A → Answer) (rs : List Rule) (a : A) → refusal_of (f a) ≡ 0 → refusal_of (next f (checked rs a)) ≡ smallest rs
unfolding checked
checked_number f rs a z = by (broken rs)
  where
    by : (o : Option Rule) → refusal_of (next f (unless o a)) ≡ number_of o
    by None = z
    by (Some r) = refl

only_left : {X P : Type 0} → X ↔ (P ⊎ ⊥) → X ↔ P
only_left {X} {P} k = (λ x. left (k.0 x), λ p. k.1 (inl p))
  where
    left : P ⊎ ⊥ → P
    left (inl p) = p
    left (inr z) = absurd z

-- ---- columns

-- the column of a text is no number of its kind
not_number : (k : Kind) (xs n : List ℕ) → xs ≡ n → (good (number k xs) ≡ false) ↔ (NumberWritten k.lowest k.highest n → ⊥)
not_number k xs n e = subst (λ (ys : List ℕ). (good (number k xs) ≡ false) ↔ (NumberWritten k.lowest k.highest ys → ⊥)) e (fails (good (number k xs)) (number_said k xs))

not_id : (xs n : List ℕ) → xs ≡ n → (good (signed_id xs) ≡ false) ↔ (IdWritten n → ⊥)
not_id xs n e = subst (λ (ys : List ℕ). (good (signed_id xs) ≡ false) ↔ (IdWritten ys → ⊥)) e (fails (good (signed_id xs)) (id_said xs))

-- the columns behind those that a line begins with
pub record Dropped (a : ℕ) (l : List ℕ) (count : ℕ) (rest : List ℕ) : Type 0 where
  pub to : ℕ
  pub are : drop count (columns_from a l) ≡ columns_from to rest
  pub enough : count ≤ length (columns_from a l)

pub dropped : {l rest : List ℕ} {cs : List (List ℕ)} → Begins l cs rest → (a : ℕ) → Dropped a l (length cs) rest
dropped no_column a = record { to = a; are = refl; enough = omega arith }
dropped (one_column {l} {c} {more} {rest} {cs} gap e w r p b) a =
    let first = one_run a l gap c more e w r p in
    let d = dropped b (a + length gap + length c) in
    record {
      to = d.to;
      are = ap (drop (suc (length cs))) first ∙ d.are;
      enough = let n = ap length first in omega (arith, d.enough);
    }

nothing_behind : (back : List ℕ) → Each White back ⊎ ((comment : List ℕ) × Begins back (percents ∷ []) comment) → (to : ℕ) → empty (fields (columns_from to back)) ≡ true
unfolding fields
nothing_behind back (inl w) to = ap (λ (cs : List Column). empty (fields cs)) (white_none to back w)
nothing_behind back (inr k) to = by k.1
  where
    by : {rest : List ℕ} → Begins back (percents ∷ []) rest → empty (fields (columns_from to back)) ≡ true
    by (one_column {l} {c} {more} {rest} {cs} gap e w r p b) = ap (λ (cs : List Column). empty (fields cs)) (one_run to back gap percents more e w r p)

-- ---- the lines' rules

module _ (line : Text) where
  pub format_eight : (f : ℕ → Answer) → ((m : ℕ) → refusal_of (f m) ≡ 0) → (n : List ℕ) → Columns line.bytes (bytes "#FORMAT" ∷ n ∷ [])
      → (refusal_of (next f (format_of line)) ≡ 8) ↔ (NumberWritten 0 65535 n → ⊥)
  unfolding format_of
  format_eight f zeros n c =
      let two = eq-eqb (length (columns line)) 2 (columns_two line (bytes "#FORMAT") n c) in
      let second = name_second line (bytes "#FORMAT") n c in
      subst (λ (m : ℕ). (m ≡ 8) ↔ (NumberWritten 0 65535 n → ⊥)) (sym (checked_number f _ _ (zeros _)))
      (held_first (rule 7 line _) _ two
      (only_left (eight_first (written (columns line) 1) _ _ refl (not_number format_number (written (columns line) 1).bytes n second) (eights_none _ refl))))

  pub end_eight : (f : ℕ → Answer) → ((m : ℕ) → refusal_of (f m) ≡ 0) → (s : Sentence) (n : List ℕ) → Columns line.bytes (bytes "#EOS" ∷ n ∷ [])
      → (refusal_of (next f (end_of (so_far s) line)) ≡ 8) ↔ (NumberWritten 1 65535 n → ⊥)
  unfolding end_of end_rules
  end_eight f zeros s n c =
      let two = eq-eqb (length (columns line)) 2 (columns_two line (bytes "#EOS") n c) in
      let second = name_second line (bytes "#EOS") n c in
      subst (λ (m : ℕ). (m ≡ 8) ↔ (NumberWritten 1 65535 n → ⊥)) (sym (checked_number f _ _ (zeros _)))
      (held_first (rule 7 line _) _ two
      (only_left (eight_first (written (columns line) 1) _ _ refl (not_number sentence_number (written (columns line) 1).bytes n second) (eights_none _ refl))))

  right_columns : (n editor when origin back : List ℕ) → Begins line.bytes (bytes "#BOS" ∷ n ∷ editor ∷ when ∷ origin ∷ []) back
      → Each White back ⊎ ((comment : List ℕ) × Begins back (percents ∷ []) comment) → (ltb 4 (length (columns line)) && empty (fields (drop 5 (columns line)))) ≡ true
  right_columns n editor when origin back b behind =
      let cs = columns line in
      let d = dropped b line.start in
      and_both (ltb 4 (length cs)) (empty (fields (drop 5 cs))) (lt-ltb 4 (length cs) (omega (arith, d.enough)))
      (ap (λ (ds : List Column). empty (fields ds)) d.are ∙ nothing_behind back behind d.to)

  pub heading_eight : (f : Heading → Answer) → ((h : Heading) → refusal_of (f h) ≡ 0) → (ts : Tables) (used : ℕ → Bool) (n editor when origin back : List ℕ)
      → Begins line.bytes (bytes "#BOS" ∷ n ∷ editor ∷ when ∷ origin ∷ []) back → Each White back ⊎ ((comment : List ℕ) × Begins back (percents ∷ []) comment)
      → (refusal_of (next f (heading_of ts used line)) ≡ 8)
      ↔ ((NumberWritten 1 65535 n → ⊥) ⊎ (IdWritten editor → ⊥) ⊎ (NumberWritten 0 4294967295 when → ⊥) ⊎ (NumberWritten 1 65535 origin → ⊥))
  unfolding heading_of
  heading_eight f zeros ts used n editor when origin back b behind =
      let cs = columns line in
      subst
      (λ (m : ℕ). (m ≡ 8) ↔ ((NumberWritten 1 65535 n → ⊥) ⊎ (IdWritten editor → ⊥) ⊎ (NumberWritten 0 4294967295 when → ⊥) ⊎ (NumberWritten 1 65535 origin → ⊥)))
      (sym (checked_number f _ _ (zeros _)))
      (held_first (rule 7 line _) _ (right_columns n editor when origin back b behind)
      (eight_first (written cs 1) _ _ refl (not_number sentence_number (written cs 1).bytes n (begins_at b line.start 1 (omega arith)))
      (eight_first (written cs 2) _ _ refl (not_id (written cs 2).bytes editor (begins_at b line.start 2 (omega arith)))
      (eight_first (written cs 3) _ _ refl (not_number date (written cs 3).bytes when (begins_at b line.start 3 (omega arith)))
      (only_left (eight_first (written cs 4) _ _ refl (not_number origin_id (written cs 4).bytes origin (begins_at b line.start 4 (omega arith))) (eights_none _ refl)))))))

  pub heading_thirteen : (f : Heading → Answer) → ((h : Heading) → refusal_of (f h) ≡ 0) → (ts : Tables) (used : ℕ → Bool) (n editor when origin back : List ℕ)
      → Begins line.bytes (bytes "#BOS" ∷ n ∷ editor ∷ when ∷ origin ∷ []) back → Each White back ⊎ ((comment : List ℕ) × Begins back (percents ∷ []) comment)
      → NumberWritten 1 65535 n → IdWritten editor → NumberWritten 0 4294967295 when → NumberWritten 1 65535 origin
      → (present origins ts && present editors ts) ≡ false → refusal_of (next f (heading_of ts used line)) ≡ 13
  unfolding heading_of
  heading_thirteen f zeros ts used n editor when origin back b behind wn we wd wo lacking =
      let cs = columns line in
      let seven = right_columns n editor when origin back b behind in
      let g1 = (number_said sentence_number (written cs 1).bytes).1 (subst (NumberWritten 1 65535) (sym (begins_at b line.start 1 (omega arith))) wn) in
      let g2 = (id_said (written cs 2).bytes).1 (subst IdWritten (sym (begins_at b line.start 2 (omega arith))) we) in
      let g3 = (number_said date (written cs 3).bytes).1 (subst (NumberWritten 0 4294967295) (sym (begins_at b line.start 3 (omega arith))) wd) in
      let g4 = (number_said origin_id (written cs 4).bytes).1 (subst (NumberWritten 1 65535) (sym (begins_at b line.start 4 (omega arith))) wo) in
      checked_number f _ _ (zeros _)
      ∙ ap number_of (passes (rule 7 line _) _ seven)
      ∙ ap number_of (passes (rule 8 (written cs 1) _) _ g1)
      ∙ ap number_of (passes (rule 8 (written cs 2) _) _ g2)
      ∙ ap number_of (passes (rule 8 (written cs 3) _) _ g3)
      ∙ ap number_of (passes (rule 8 (written cs 4) _) _ g4)
      ∙ decides (rule 13 line _) _ lacking refl
