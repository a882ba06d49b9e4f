use Rattle.ix_stages.proofs.queue.VisitQueue.new.Given as goal

abbrev pub ghosts-name_course : goal.ghosts-name_course
ghosts-name_course g a = record { course = g.K.Course.expected a.course.value; seats = a.seats.value }
