use Rattle.test_support.proofs.course.+there_and_back.Given as goal

abbrev pub decreases-there_and_back : goal.decreases-there_and_back
decreases-there_and_back g l = l.most
