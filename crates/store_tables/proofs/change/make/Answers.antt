use Rattle.store_tables.proofs.change.make.Goals as goal

pub returns-in-AddAccount : goal.returns-in-AddAccount
returns-in-AddAccount g c = rw c.in-AddAccount.is c.add_account.ensures

pub returns-in-SetActive : goal.returns-in-SetActive
returns-in-SetActive g c = rw c.in-SetActive.is c.set_active.ensures

pub returns-in-SetCounters : goal.returns-in-SetCounters
returns-in-SetCounters g c = rw c.in-SetCounters.is c.set_counters.ensures

pub returns-in-AddScript : goal.returns-in-AddScript
returns-in-AddScript g c = rw c.in-AddScript.is c.add_script.ensures

pub returns-in-RemoveScript : goal.returns-in-RemoveScript
returns-in-RemoveScript g c = rw c.in-RemoveScript.is c.remove_script.ensures

pub returns-in-AddMessage : goal.returns-in-AddMessage
returns-in-AddMessage g c = rw c.in-AddMessage.is (rw (c.in-AddMessage.is) at c.add_message.ensures)

pub returns-in-AddCopy : goal.returns-in-AddCopy
returns-in-AddCopy g c = rw c.in-AddCopy.is (rw (c.in-AddCopy.is) at c.add_copy.ensures)

pub returns-in-RemoveMessage : goal.returns-in-RemoveMessage
returns-in-RemoveMessage g c = rw c.in-RemoveMessage.is c.remove_message.ensures

pub returns-in-RemoveCopy : goal.returns-in-RemoveCopy
returns-in-RemoveCopy g c = rw c.in-RemoveCopy.is c.remove_copy.ensures

pub returns-in-AddOutgoing : goal.returns-in-AddOutgoing
returns-in-AddOutgoing g c = rw c.in-AddOutgoing.is (rw (c.in-AddOutgoing.is) at c.add_outgoing.ensures)

pub returns-in-RemoveOutgoing : goal.returns-in-RemoveOutgoing
returns-in-RemoveOutgoing g c = rw c.in-RemoveOutgoing.is c.remove_outgoing.ensures

pub returns-in-AddReply : goal.returns-in-AddReply
returns-in-AddReply g c = rw c.in-AddReply.is c.add_reply.ensures

pub returns-in-RemoveReply : goal.returns-in-RemoveReply
returns-in-RemoveReply g c = rw c.in-RemoveReply.is c.remove_reply.ensures

pub returns-in-AddNotice : goal.returns-in-AddNotice
returns-in-AddNotice g c = rw c.in-AddNotice.is (rw (c.in-AddNotice.is) at c.add_notice.ensures)

pub returns-in-SetAddress : goal.returns-in-SetAddress
returns-in-SetAddress g c = rw c.in-SetAddress.is c.set_address.ensures

pub returns-in-SetPassword : goal.returns-in-SetPassword
returns-in-SetPassword g c = rw c.in-SetPassword.is c.set_password.ensures

pub returns-in-SetRounds : goal.returns-in-SetRounds
returns-in-SetRounds g c = rw c.in-SetRounds.is c.set_rounds.ensures

pub returns-in-RemoveScripts : goal.returns-in-RemoveScripts
returns-in-RemoveScripts g c = rw c.in-RemoveScripts.is c.remove_scripts.ensures

pub returns-in-RemoveQueue : goal.returns-in-RemoveQueue
returns-in-RemoveQueue g c = rw c.in-RemoveQueue.is c.remove_queue.ensures

pub returns-in-RemoveMessages : goal.returns-in-RemoveMessages
returns-in-RemoveMessages g c = rw c.in-RemoveMessages.is c.remove_messages.ensures

pub returns-in-RemoveCopies : goal.returns-in-RemoveCopies
returns-in-RemoveCopies g c = rw c.in-RemoveCopies.is c.remove_copies.ensures

pub returns-in-RemoveNotices : goal.returns-in-RemoveNotices
returns-in-RemoveNotices g c = rw c.in-RemoveNotices.is c.remove_notices.ensures

pub returns-in-RemoveEarlyNotices : goal.returns-in-RemoveEarlyNotices
returns-in-RemoveEarlyNotices g c = rw c.in-RemoveEarlyNotices.is c.remove_early_notices.ensures
