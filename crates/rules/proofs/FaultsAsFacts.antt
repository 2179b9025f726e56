-- Tests that fail, as facts: a column is no number of its kind, a text is longer than its limit.
use Prim.Native.Nat.{ℕ}
use mathlib.Core.Path.{◌≡◌}
use mathlib.Core.Logic.{◌↔◌}
use mathlib.Core.Bool.{false}
use Rattle.std.specs.Prelude.{Option, Some}
use mathlib.Core.List.{List}
use lib.ListN.{length}
use borrow.Author.Tests.{leb-false, lt-leb}
use Rattle.rules.specs.Texts.{Text, at_most}
use Rattle.rules.specs.Numbers.{Kind, number, signed_id, parent_number, good, value}
use Rattle.rules.specs.GrammarNumbers.{NumberIn, IdIn, ParentWritten}
use Rattle.rules.specs.ColumnsAtFault.{NoNumber, NoId, Longer}
use Rattle.rules.proofs.Conjunctions.{false_if_never}
use Rattle.rules.proofs.SaidOfLists.{never_both}
use Rattle.rules.proofs.TestsAsFacts.{good_some, some_good}
use Rattle.rules.proofs.NumeralsAsSaid.{range_of_kind, number_said, id_said, parent_said}

none_said : (o : Option ℕ) (Said : ℕ → Type 0) → ((n : ℕ) → (o ≡ Some n) ↔ Said n) → (good o ≡ false) ↔ (((v : ℕ) × Said v) → ⊥)
none_said o Said k = (
  λ e w. never_both (good o) (some_good o w.0 ((k w.0).1 w.1)) e,
  λ n. false_if_never (good o) (λ e. n (value o, (k (value o)).0 (good_some o e))),
)

pub no_number : (k : Kind) (t : Text) → (good (number k t.bytes) ≡ false) ↔ NoNumber (range_of_kind k) t
no_number k t = none_said (number k t.bytes) (NumberIn (range_of_kind k) t.bytes) (number_said k t.bytes)

pub no_id : (t : Text) → (good (signed_id t.bytes) ≡ false) ↔ NoId t
no_id t = none_said (signed_id t.bytes) (IdIn t.bytes) (id_said t.bytes)

pub no_parent : (xs : List ℕ) → (good (parent_number xs) ≡ false) ↔ (((v : ℕ) × ParentWritten xs v) → ⊥)
no_parent xs = none_said (parent_number xs) (ParentWritten xs) (parent_said xs)

pub longer : (limit : ℕ) (t : Text) → (at_most limit t ≡ false) ↔ Longer limit t
longer limit t = (leb-false (length t.bytes) limit, lt-leb (length t.bytes) limit)
