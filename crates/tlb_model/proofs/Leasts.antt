-- The least number from one on of which a test holds, as the test changes at one number.
use Rattle.std.proofs.Common.{◌≡◌, ◌≢◌, ℕ, ◌+◌, ◌≤◌, Bool, true, false, true≢false, inl, inr, sym, ◌∙◌, subst, arith}
use Rattle.std.proofs.lemmas.Bool.{cases_eq, cases_lt}
use Rattle.tlb_model.specs.SlotBuckets.{IsLeast}

-- no number of which the test holds is below what is found
pub least_bound : (test : ℕ → Bool) (from found k : ℕ) → IsLeast test from found → from ≤ k → test k ≡ true → found ≤ k
least_bound test from found k least start holds = elim (cases_lt k found) [
  | inl below ↦ absurd (true≢false (sym holds ∙ least.none k start below))
  | inr above ↦ above
]

-- where the test stays the same up to what is found, the same is found
pub least_same : (one other : ℕ → Bool) (from found : ℕ) → IsLeast one from found → ((k : ℕ) → from ≤ k → k ≤ found → other k ≡ one k)
    → IsLeast other from found
least_same one other from found least same = record {
  above = least.above;
  most = least.most;
  is = λ below. same found least.above (omega arith) ∙ least.is below;
  none = λ k start below. same k start (omega (arith, below)) ∙ least.none k start below;
}

-- a number of which the test holds from now on is found where it is below what was found
pub least_joined : (one other : ℕ → Bool) (from found at : ℕ) → IsLeast one from found → from ≤ at → at ≤ found → other at ≡ true
    → ((k : ℕ) → k ≢ at → other k ≡ one k) → IsLeast other from at
least_joined one other from found at least start below holds same = record {
  above = start;
  most = omega (arith, below, least.most);
  is = λ _. holds;
  none = λ k from_start lower. same k (omega (arith, lower)) ∙ least.none k from_start (omega (arith, lower, below));
}

-- a number of which the test holds no more makes way for the one behind it
pub least_left : (one other : ℕ → Bool) (from at next : ℕ) → IsLeast one from at → IsLeast one (at + 1) next → other at ≡ false
    → ((k : ℕ) → k ≢ at → other k ≡ one k) → IsLeast other from next
least_left one other from at next least behind fails same = record {
  above = omega (arith, least.above, behind.above);
  most = behind.most;
  is = λ below. same next (omega (arith, behind.above)) ∙ behind.is below;
  none = λ k start below. elim (cases_eq k at) [
    | inl e ↦ subst (λ n. other n ≡ false) (sym e) fails
    | inr ne ↦ same k ne ∙ elim (cases_lt k at) [
      | inl lower ↦ least.none k start lower
      | inr higher ↦ behind.none k (omega (arith, ne, higher)) below
    ]
  ];
}

-- a later start finds the same, up to what is found
pub least_later : (test : ℕ → Bool) (from later found : ℕ) → IsLeast test from found → from ≤ later → later ≤ found → IsLeast test later found
least_later test from later found least behind below = record {
  above = below;
  most = least.most;
  is = least.is;
  none = λ k start lower. least.none k (omega (arith, behind, start)) lower;
}
