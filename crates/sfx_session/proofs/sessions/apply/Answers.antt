use Rattle.sfx_session.proofs.sessions.apply.Goals as goal

pub returns-in-Ok : goal.returns-in-Ok
returns-in-Ok g c =
    let done = c.in-Ok.ensures in record {
      applied = done.report;
      arrives = done.arrives;
      breaks_off = tt;
      no_refusal = tt;
      spares_source = tt;
      cause = done.cause;
    }

pub returns-in-Err-Provider : goal.returns-in-Err-Provider
returns-in-Err-Provider g c =
    let failed = c.in-Err-Provider.ensures in
    let cause = rw c.in-Err-Provider.field-0-is at failed.cause in record {
      applied = tt;
      arrives = tt;
      breaks_off = failed.breaks_off;
      no_refusal = tt;
      spares_source = tt;
      cause = cause;
    }

pub returns-in-Err-Memory : goal.returns-in-Err-Memory
returns-in-Err-Memory g c =
    let failed = c.in-Err-Memory.ensures in
    let cause = rw c.in-Err-Memory.field-0-is at failed.cause in record {
      applied = tt;
      arrives = tt;
      breaks_off = failed.breaks_off;
      no_refusal = tt;
      spares_source = tt;
      cause = cause;
    }
