use Rattle.store_tables.proofs.schema.is_account.Goals as goal

pub returns : goal.returns
returns c =
    rw (c.needed.ensures, c.needed-2.ensures, c.needed-3.ensures, c.needed-4.ensures, c.needed-5.ensures, c.maybe.ensures, c.needed-6.ensures, c.needed-7.ensures, c.needed-8.ensures) at c.is_table.ensures
