use Rattle.std.proofs.Common.{sym, subst}
use Rattle.std.proofs.lemmas.List.Elements.{Contains-append_right}
use Rattle.std.specs.List.{Contains}
use Rattle.maildir_files.proofs.memory_sink.MemorySinkMailSink.settle.Goals as goal

pub returns-clause-kept_there : goal.returns-clause-kept_there
returns-clause-kept_there c = λ path mail has.
    let there = subst (λ l. Contains l mail) (sym c.fails.ensures.unsettled) has in
    subst (λ l. Contains l mail) (sym c.in_ok-keep_all.ensures.kept) (Contains-append_right c.fails.new.self.messages c.fails.new.self.unsettled mail there)
