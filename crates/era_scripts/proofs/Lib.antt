mod LoanLists
