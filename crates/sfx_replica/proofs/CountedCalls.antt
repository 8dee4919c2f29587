-- What a call that counts, and fails or goes on, says of the call that made it.
use Rattle.std.proofs.Common.{◌≡◌, Result, Ok, Err, refl, sym, subst}
use Rattle.sfx_provider.specs.declared.provider_fault.ProviderFault.{ProviderFault}
use Rattle.sfx_provider.specs.declared.provider_fault.ProviderFault.TheVariants.{Failed, Memory}
use Rattle.sfx_replica.specs.MemoryProvider.{Counts, MemoryProviderData, Reads}

-- No answer is both faults.
apart : {A : Type 0} {P : Type 0} (answer : Result A ProviderFault) → answer ≡ Err Memory → answer ≡ Err Failed → P
apart answer memory failed = absurd (cc)

module _ {A B : Type 0} (old new : MemoryProviderData) where
  counts_ok : (x : A) (y : B) → Counts old new (Ok x) → Counts old new (Ok y)
  counts_ok x y c = record {
    fails = (λ e. absurd (cc), λ next. let bad : Ok x ≡ Err Failed = c.fails.1 next in absurd (cc));
    list = c.list;
    calls = c.calls;
    faults = c.faults;
    cause = c.cause;
  }

  -- both calls go on
  pub reads_ok : (x : A) (y : B) → Reads old new (Ok x) → Reads old new (Ok y)
  reads_ok x y r = record { counts = counts_ok x y r.counts; rests = r.rests }

  counts_failed : (fault : ProviderFault) → Counts {T = A} old new (Err fault) → Counts {T = B} old new (Err fault)
  counts_failed Failed c = record {
    fails = (λ e. c.fails.0 refl, λ next. refl);
    list = c.list;
    calls = c.calls;
    faults = c.faults;
    cause = c.cause;
  }
  counts_failed Memory c = record {
    fails = (λ e. absurd (cc), λ next. apart (Err Memory) refl (c.fails.1 next));
    list = c.list;
    calls = c.calls;
    faults = c.faults;
    cause = c.cause;
  }

  -- the answer is the fault of the first call
  pub reads_failed :
      (answer : Result B ProviderFault) (fault other : ProviderFault)
      → answer ≡ Err fault → fault ≡ other → Reads {T = A} old new (Err other) → Reads old new answer
  reads_failed answer fault other is same r =
      subst (Reads old new) (sym is)
      (subst (λ (f : ProviderFault). Reads {T = B} old new (Err f)) (sym same) (record { counts = counts_failed other r.counts; rests = r.rests }))

  counts_memory : (x : A) → Counts old new (Ok x) → Counts {T = B} old new (Err Memory)
  counts_memory x c = record {
    fails = (λ e. absurd (cc), λ next. let bad : Ok x ≡ Err Failed = c.fails.1 next in absurd (cc));
    list = c.list;
    calls = c.calls;
    faults = c.faults;
    cause = (c.cause, tt);
  }

  -- the first call went on, and memory ran out then
  pub reads_memory :
      (x : A) (answer : Result B ProviderFault) (fault : ProviderFault)
      → answer ≡ Err fault → fault ≡ Memory → Reads old new (Ok x) → Reads old new answer
  reads_memory x answer fault is same r =
      subst (Reads old new) (sym is)
      (subst (λ (f : ProviderFault). Reads {T = B} old new (Err f)) (sym same) (record { counts = counts_memory x r.counts; rests = r.rests }))
